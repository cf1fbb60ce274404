use Rattle.std.proofs.Common.{◌≡◌, ℕ, arith}
use Rattle.std.proofs.lemmas.List.{take_more}
use Rattle.std.proofs.lemmas.List.Elements.{AllZip-push}
use Rattle.iddqd_hash.proofs.hash_table_reference.copies.cloned_pairs.Goals as goal

pub loop-pair-preserved : goal.loop-pair-preserved
loop-pair-preserved g c =
    let more = take_more c.args.pairs.now c.loop-pair.pair-index c.pair-item.result (omega arith) in
    record {
      clones =
          rw (more, c.push_reserved.ensures.items, ← c.pair-item.is) (AllZip-push (λ (e w : ℕ × _). (w.0 ≡ e.0) × g.T.Clone.is_clone e.1 w.1) _ _ _ _ c.loop-pair.invariant.clones c.in_ok-clone.ensures.cases);
      pushed = omega arith;
      exact = omega arith;
    }
