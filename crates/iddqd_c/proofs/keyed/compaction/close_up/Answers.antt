use Rattle.std.proofs.Common.{◌≡◌, ◌∙◌, inl, refl, arith, subst, ap}
use Rattle.iddqd.specs.Store.{slot_count, IsValid}
use Rattle.iddqd_c.proofs.CompactingLemmas.{names_of_slots}
use Rattle.iddqd_c.proofs.keyed.compaction.close_up.Goals as goal

pub returns-in-Ok-clause-compacts : goal.returns-in-Ok-clause-compacts
returns-in-Ok-clause-compacts g c =
    let same : c.parts-2.inside.items.now.store ≡ c.args.keyed.now.entries.store = c.parts-2.view_is ∙ c.parts.ensures in
    let slots : c.slot_count-slots.result ≡ slot_count c.args.keyed.now.entries.store =
    c.slot_count-slots.ensures.value ∙ ap slot_count same in
    inl (
      refl,
      omega (arith, slots, c.if-indexes-slots.false),
      slots,
      names_of_slots c.args.keyed.now.entries.store c.in-Ok.remap c.args.indexes.now c.write_all.new.indexes
          (subst IsValid same c.slot_count-slots.ensures.valid) c.in-Ok.ensures.remap (rw slots at c.write_all.ensures),
      c.in-Ok.ensures.compacted,
    )
