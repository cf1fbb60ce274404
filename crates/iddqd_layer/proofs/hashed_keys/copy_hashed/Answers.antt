use Rattle.std.proofs.Common.{arith}
use Rattle.std.proofs.lemmas.List.{take_more}
use Rattle.std.proofs.lemmas.List.Elements.{AllZip-push}
use Rattle.iddqd_layer.specs.Layer.{SameFiled}
use Rattle.iddqd_layer.proofs.hashed_keys.copy_hashed.Goals as goal

pub loop-table-preserved : goal.loop-table-preserved
loop-table-preserved c =
    let more = take_more c.args.tables.now c.loop-table.table-index c.table-item.result (omega arith) in
    record {
      clones = rw (more, c.push_reserved.ensures.items, ← c.table-item.is)
          (AllZip-push SameFiled _ _ _ _ c.loop-table.invariant.clones c.in_ok-clone.ensures.cases);
      pushed = omega arith;
      room = omega arith;
    }
