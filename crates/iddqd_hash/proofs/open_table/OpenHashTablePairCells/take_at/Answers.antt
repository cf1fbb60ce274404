use Rattle.std.proofs.Common.{◌≡◌, ◌∙◌, Some, None, IsSome, length, set, sym, ap, arith}
use Rattle.std.proofs.lemmas.List.{with_items_is, length-set}
use Rattle.std.specs.Vec.{with_items}
use Rattle.iddqd_hash.specs.OpenTable.{slots_of, slot_at}
use Rattle.iddqd_hash.proofs.OpenCellLemmas.{cells_long}
use Rattle.iddqd_hash.proofs.OpenSlotLemmas.{some_inside, some_is, length-taken, pairs-taken}
use Rattle.iddqd_hash.proofs.OpenTableLemmas.{entries-table_of, pair_at-table_of, room-table_of, fits_from, IsSound-taken, KeepsMemory-table_of}
use Rattle.iddqd_hash.proofs.open_table.OpenHashTablePairCells.take_at.Goals as goal

pub overflow_sub-self : goal.overflow_sub-self
overflow_sub-self g c =
    let slots = slots_of g.C.Cell.slot c.self.inside.tags.items c.self.inside.cells.items in
    let some : IsSome (slot_at slots c.args.place) = rw (← c.self.view_is, pair_at-table_of) at c.requires in
    let pair = some_is _ some in
    omega (arith, length-taken slots c.args.place pair.0 (some_inside _ _ some) pair.1, c.self.invariant.sound.counted)

pub take-requires-clause-inside : goal.take-requires-clause-inside
take-requires-clause-inside g c =
    let slots = slots_of g.C.Cell.slot c.self.inside.tags.items c.self.inside.cells.items in
    let some : IsSome (slot_at slots c.args.place) = rw (← c.self.view_is, pair_at-table_of) at c.requires in
    let inside = some_inside slots c.args.place some in
    rw c.as_mut_slice.ensures.value (omega (arith, inside, c.self.invariant.sound.probed.same_length))

pub take-requires-clause-same_length : goal.take-requires-clause-same_length
take-requires-clause-same_length g c =
    rw (c.as_mut_slice-2.ensures.value, c.as_mut_slice.ensures.value) (sym (cells_long g.C.Cell.slot c.self.inside.tags.items c.self.inside.cells.items) ∙ c.self.invariant.sound.probed.same_length)

pub take-requires-clause-some : goal.take-requires-clause-some
take-requires-clause-some g c =
    let slots = slots_of g.C.Cell.slot c.self.inside.tags.items c.self.inside.cells.items in
    let some : IsSome (slot_at slots c.args.place) = rw (← c.self.view_is, pair_at-table_of) at c.requires in
    rw (c.as_mut_slice.ensures.value, c.as_mut_slice-2.ensures.value) some

pub invariant_of-self : goal.invariant_of-self
invariant_of-self g c =
    let slots = slots_of g.C.Cell.slot c.self.inside.tags.items c.self.inside.cells.items in
    let some : IsSome (slot_at slots c.args.place) = rw (← c.self.view_is, pair_at-table_of) at c.requires in
    let pair = some_is _ some in
    let tags-is = with_items_is c.self.inside.tags c.take.new.tags (c.take.auto.tags ∙ c.as_mut_slice.ensures.len) in
    let cells-is =
    with_items_is c.self.inside.cells c.take.new.cells (c.take.auto.cells ∙ c.as_mut_slice-2.ensures.len) in
    let slots-is : slots_of g.C.Cell.slot (with_items c.self.inside.tags c.take.new.tags).items (with_items c.self.inside.cells c.take.new.cells).items ≡ set slots c.args.place None =
    (λ i. slots_of g.C.Cell.slot (tags-is i) (cells-is i)) ∙ c.take.ensures.slots
    ∙ (λ i. set (slots_of g.C.Cell.slot (c.as_mut_slice.ensures.value i) (c.as_mut_slice-2.ensures.value i)) c.args.place None) in
    let marked = tags-is ∙ c.take.ensures.tags ∙ ap (λ xs. set xs c.args.place 1) c.as_mut_slice.ensures.value in
    record {
      sound =
          rw (slots-is, marked) (IsSound-taken c.self.inside.tags.items slots _ _ c.self.invariant.sound c.args.place pair.0 (omega (arith, some_inside slots c.args.place some, c.self.invariant.sound.probed.same_length)) pair.1);
      exact_tags = c.self.invariant.exact_tags;
      exact_cells = c.self.invariant.exact_cells;
    }

pub returns-clause-removed : goal.returns-clause-removed
returns-clause-removed g c =
    let slots = slots_of g.C.Cell.slot c.self.inside.tags.items c.self.inside.cells.items in
    let some : IsSome (slot_at slots c.args.place) = rw (← c.self.view_is, pair_at-table_of) at c.requires in
    let pair = some_is _ some in
    let tags-is = with_items_is c.self.inside.tags c.take.new.tags (c.take.auto.tags ∙ c.as_mut_slice.ensures.len) in
    let cells-is =
    with_items_is c.self.inside.cells c.take.new.cells (c.take.auto.cells ∙ c.as_mut_slice-2.ensures.len) in
    let slots-is : slots_of g.C.Cell.slot (with_items c.self.inside.tags c.take.new.tags).items (with_items c.self.inside.cells c.take.new.cells).items ≡ set slots c.args.place None =
    (λ i. slots_of g.C.Cell.slot (tags-is i) (cells-is i)) ∙ c.take.ensures.slots
    ∙ (λ i. set (slots_of g.C.Cell.slot (c.as_mut_slice.ensures.value i) (c.as_mut_slice-2.ensures.value i)) c.args.place None) in
    let full : slot_at slots c.args.place ≡ Some c.take.result =
    (λ i. slot_at (slots_of g.C.Cell.slot (sym c.as_mut_slice.ensures.value i) (sym c.as_mut_slice-2.ensures.value i)) c.args.place)
    ∙ c.take.ensures.pair in
    rw (← c.self.view_is)
    (record {
      hash = c.take.result.0;
      is_pair = pair_at-table_of _ _ ∙ full;
      others_stay =
          rw (entries-table_of, entries-table_of, slots-is) (pairs-taken slots c.args.place _ (some_inside slots c.args.place some) full);
    })

pub returns-clause-memory : goal.returns-clause-memory
returns-clause-memory g c =
    let slots = slots_of g.C.Cell.slot c.self.inside.tags.items c.self.inside.cells.items in
    let some : IsSome (slot_at slots c.args.place) = rw (← c.self.view_is, pair_at-table_of) at c.requires in
    let pair = some_is _ some in
    let tags-is = with_items_is c.self.inside.tags c.take.new.tags (c.take.auto.tags ∙ c.as_mut_slice.ensures.len) in
    let cells-is =
    with_items_is c.self.inside.cells c.take.new.cells (c.take.auto.cells ∙ c.as_mut_slice-2.ensures.len) in
    let slots-is : slots_of g.C.Cell.slot (with_items c.self.inside.tags c.take.new.tags).items (with_items c.self.inside.cells c.take.new.cells).items ≡ set slots c.args.place None =
    (λ i. slots_of g.C.Cell.slot (tags-is i) (cells-is i)) ∙ c.take.ensures.slots
    ∙ (λ i. set (slots_of g.C.Cell.slot (c.as_mut_slice.ensures.value i) (c.as_mut_slice-2.ensures.value i)) c.args.place None) in
    let fewer = length-taken slots c.args.place pair.0 (some_inside _ _ some) pair.1 in
    rw (← c.self.view_is) (KeepsMemory-table_of _ _ (ap length slots-is ∙ length-set slots c.args.place None) (fits_from _ _ _ _ c.self.invariant.sound) (rw slots-is (omega (arith, fewer))))

pub returns-clause-room : goal.returns-clause-room
returns-clause-room g c =
    let slots = slots_of g.C.Cell.slot c.self.inside.tags.items c.self.inside.cells.items in
    let some : IsSome (slot_at slots c.args.place) = rw (← c.self.view_is, pair_at-table_of) at c.requires in
    let pair = some_is _ some in
    let tags-is = with_items_is c.self.inside.tags c.take.new.tags (c.take.auto.tags ∙ c.as_mut_slice.ensures.len) in
    let cells-is =
    with_items_is c.self.inside.cells c.take.new.cells (c.take.auto.cells ∙ c.as_mut_slice-2.ensures.len) in
    let slots-is : slots_of g.C.Cell.slot (with_items c.self.inside.tags c.take.new.tags).items (with_items c.self.inside.cells c.take.new.cells).items ≡ set slots c.args.place None =
    (λ i. slots_of g.C.Cell.slot (tags-is i) (cells-is i)) ∙ c.take.ensures.slots
    ∙ (λ i. set (slots_of g.C.Cell.slot (c.as_mut_slice.ensures.value i) (c.as_mut_slice-2.ensures.value i)) c.args.place None) in
    let fewer = length-taken slots c.args.place pair.0 (some_inside _ _ some) pair.1 in
    let fits = fits_from _ _ _ _ c.self.invariant.sound in
    rw (← c.self.view_is, room-table_of, room-table_of, slots-is, length-set) (omega (arith, fewer, fits))
