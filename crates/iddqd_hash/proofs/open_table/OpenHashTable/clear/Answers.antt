use Rattle.std.proofs.Common.{◌≡◌, ◌∙◌, [], None, length, replicate, refl, ap, sym, arith}
use Rattle.std.proofs.lemmas.List.{with_items_is, length-replicate}
use Rattle.std.specs.Vec.{with_items}
use Rattle.iddqd_hash.specs.HashTable.{entries}
use Rattle.iddqd_hash.specs.OpenTable.{slots_of}
use Rattle.iddqd_hash.proofs.OpenCellLemmas.{cells_long}
use Rattle.iddqd_hash.proofs.OpenSlotLemmas.{pairs-empty}
use Rattle.iddqd_hash.proofs.OpenTableLemmas.{entries-table_of, fits_from, unused_empty, IsSound-cleared, KeepsMemory-table_of, KeepsMemory-cleared}
use Rattle.iddqd_hash.proofs.open_table.OpenHashTable.clear.Goals as goal

pub invariant_of-self : goal.invariant_of-self
invariant_of-self g c =
    let tags = c.self.inside.tags in
    let cells = c.self.inside.cells in
    let tags-is = with_items_is tags c.clear_tags.new.tags (c.clear_tags.auto.tags ∙ c.as_mut_slice.ensures.len) in
    let cells-is =
    with_items_is cells c.clear_cells.new.cells (c.clear_cells.auto.cells ∙ c.as_mut_slice-2.ensures.len) in
    let no_tag = tags-is ∙ c.clear_tags.ensures ∙ ap (λ xs. replicate (length xs) 0) c.as_mut_slice.ensures.value in
    let long : length c.as_mut_slice-2.result.now ≡ length tags.items =
    ap length c.as_mut_slice-2.ensures.value ∙ sym (cells_long g.C.Cell.slot tags.items cells.items)
    ∙ c.self.invariant.sound.probed.same_length in
    let no_pair : slots_of g.C.Cell.slot (with_items tags c.clear_tags.new.tags).items (with_items cells c.clear_cells.new.cells).items ≡ replicate (length tags.items) None =
    (λ i. slots_of g.C.Cell.slot (no_tag i) (cells-is i))
    ∙ ap (λ n. slots_of g.C.Cell.slot (replicate n 0) c.clear_cells.new.cells) (sym long) ∙ c.clear_cells.ensures
    ∙ ap (λ n. replicate n None) long in
    record {
      sound = rw (no_pair, no_tag) (IsSound-cleared _ _ _ _ _ _ c.self.invariant.sound refl refl);
      exact_tags = c.self.invariant.exact_tags;
      exact_cells = c.self.invariant.exact_cells;
    }

pub returns-clause-empty : goal.returns-clause-empty
returns-clause-empty g c =
    let tags = c.self.inside.tags in
    let cells = c.self.inside.cells in
    let tags-is = with_items_is tags c.clear_tags.new.tags (c.clear_tags.auto.tags ∙ c.as_mut_slice.ensures.len) in
    let cells-is =
    with_items_is cells c.clear_cells.new.cells (c.clear_cells.auto.cells ∙ c.as_mut_slice-2.ensures.len) in
    let no_tag = tags-is ∙ c.clear_tags.ensures ∙ ap (λ xs. replicate (length xs) 0) c.as_mut_slice.ensures.value in
    let long : length c.as_mut_slice-2.result.now ≡ length tags.items =
    ap length c.as_mut_slice-2.ensures.value ∙ sym (cells_long g.C.Cell.slot tags.items cells.items)
    ∙ c.self.invariant.sound.probed.same_length in
    let no_pair : slots_of g.C.Cell.slot (with_items tags c.clear_tags.new.tags).items (with_items cells c.clear_cells.new.cells).items ≡ replicate (length tags.items) None =
    (λ i. slots_of g.C.Cell.slot (no_tag i) (cells-is i))
    ∙ ap (λ n. slots_of g.C.Cell.slot (replicate n 0) c.clear_cells.new.cells) (sym long) ∙ c.clear_cells.ensures
    ∙ ap (λ n. replicate n None) long in
    rw (entries-table_of, no_pair) (pairs-empty (length c.self.inside.tags.items))

pub returns-clause-memory : goal.returns-clause-memory
returns-clause-memory g c =
    let tags = c.self.inside.tags in
    let cells = c.self.inside.cells in
    let tags-is = with_items_is tags c.clear_tags.new.tags (c.clear_tags.auto.tags ∙ c.as_mut_slice.ensures.len) in
    let cells-is =
    with_items_is cells c.clear_cells.new.cells (c.clear_cells.auto.cells ∙ c.as_mut_slice-2.ensures.len) in
    let no_tag = tags-is ∙ c.clear_tags.ensures ∙ ap (λ xs. replicate (length xs) 0) c.as_mut_slice.ensures.value in
    let long : length c.as_mut_slice-2.result.now ≡ length tags.items =
    ap length c.as_mut_slice-2.ensures.value ∙ sym (cells_long g.C.Cell.slot tags.items cells.items)
    ∙ c.self.invariant.sound.probed.same_length in
    let no_pair : slots_of g.C.Cell.slot (with_items tags c.clear_tags.new.tags).items (with_items cells c.clear_cells.new.cells).items ≡ replicate (length tags.items) None =
    (λ i. slots_of g.C.Cell.slot (no_tag i) (cells-is i))
    ∙ ap (λ n. slots_of g.C.Cell.slot (replicate n 0) c.clear_cells.new.cells) (sym long) ∙ c.clear_cells.ensures
    ∙ ap (λ n. replicate n None) long in
    let long =
    ap length no_pair ∙ length-replicate (length c.self.inside.tags.items) None
    ∙ sym c.self.invariant.sound.probed.same_length in
    rw (← c.self.view_is) (KeepsMemory-table_of _ _ long (fits_from _ _ _ _ c.self.invariant.sound) (rw no_pair (omega (arith, ap length (pairs-empty {T = g.row.T.Denot} (length c.self.inside.tags.items))))))

pub returns-then-self-eq0-clause-empty : goal.returns-then-self-eq0-clause-empty
returns-then-self-eq0-clause-empty g c =
    rw (← c.self.view_is, entries-table_of) (unused_empty _ _ _ _ c.self.invariant.sound (omega arith))

pub returns-clause-room : goal.returns-clause-room
returns-clause-room g c = KeepsMemory-cleared _ _ (returns-clause-memory g c) (returns-clause-empty g c)

pub returns-then-self-eq0-clause-room : goal.returns-then-self-eq0-clause-room
returns-then-self-eq0-clause-room g c =
    let none : entries c.args.self.now ≡ [] =
    rw (← c.self.view_is, entries-table_of) (unused_empty _ _ _ _ c.self.invariant.sound (omega arith)) in
    omega (arith, ap length none)
