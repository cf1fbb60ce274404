use Rattle.std.proofs.Common.{◌≡◌, inl, refl, arith}
use Rattle.iddqd.specs.Store.{slot_count}
use Rattle.iddqd_layer.specs.Layer.{store_of}
use Rattle.iddqd_c.proofs.CompactingLemmas.{names_of_slots}
use Rattle.iddqd_c.proofs.layer.compaction.close_up.Goals as goal

pub returns-in-Ok-clause-compacts : goal.returns-in-Ok-clause-compacts
returns-in-Ok-clause-compacts c =
    let slots : c.slots-slots.result ≡ slot_count (store_of c.args.layer.now) = c.slots-slots.ensures in
    let did = c.in-Ok.ensures in
    inl (
      refl,
      omega (arith, slots, c.if-indexes-slots.false),
      slots,
      names_of_slots (store_of c.args.layer.now) c.in-Ok.remap c.args.indexes.now c.write_all.new.indexes
          c.len-live.ensures.paired.valid did.remap (rw slots at c.write_all.ensures),
      record { store = did.store; hashed = did.hashed; ordered = did.ordered },
    )
