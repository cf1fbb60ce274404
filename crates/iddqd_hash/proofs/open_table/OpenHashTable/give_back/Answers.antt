use Rattle.std.proofs.Common.{◌≡◌, ◌∙◌, [], length, sym, ap, arith}
use Rattle.std.proofs.lemmas.Grind.{common_steps}
use Rattle.iddqd_hash.specs.OpenTable.{slots_of, pairs}
use Rattle.iddqd_hash.proofs.OpenCellLemmas.{cells_long}
use Rattle.iddqd_hash.proofs.OpenTableLemmas.{entries-table_of, HasNoMemory-table_of, IsSound-none}
use Rattle.iddqd_hash.proofs.open_table.OpenHashTable.give_back.Goals as goal

pub drop_empty_cells-requires-clause-same_length : goal.drop_empty_cells-requires-clause-same_length
drop_empty_cells-requires-clause-same_length g c =
    rw c.as_slice.ensures.value (omega (arith, cells_long g.C.Cell.slot c.self.inside.tags.items c.self.inside.cells.items, c.self.invariant.sound.probed.same_length))

pub drop_empty_cells-requires-clause-empty : goal.drop_empty_cells-requires-clause-empty
drop_empty_cells-requires-clause-empty g c =
    rw c.as_slice.ensures.value (rw (← c.self.view_is, entries-table_of) at c.requires)

pub invariant_of-self : goal.invariant_of-self
invariant_of-self g c =
    let none : pairs (slots_of g.C.Cell.slot c.self.inside.tags.items c.self.inside.cells.items) ≡ [] =
    rw (← c.self.view_is, entries-table_of) at c.requires in
    let no_cell : c.replace.new.dest.items ≡ [] = rw c.replace.ensures.after c.new-2.ensures.items in
    let empty : c.self.inside.len ≡ 0 = c.self.invariant.sound.counted ∙ ap length none in
    record {
      sound = rw empty (IsSound-none _ _ c.new.ensures.items (ap (slots_of g.C.Cell.slot c.new.result.items) no_cell));
      exact_tags = c.new.ensures.capacity ∙ sym c.new.ensures.len;
      exact_cells = rw c.replace.ensures.after (c.new-2.ensures.capacity ∙ sym c.new-2.ensures.len);
    }

pub returns-clause-empty : goal.returns-clause-empty
returns-clause-empty g c =
    let none : c.replace.new.dest.items ≡ [] = rw c.replace.ensures.after c.new-2.ensures.items in
    entries-table_of _ ∙ ap (λ cells. pairs (slots_of g.C.Cell.slot c.new.result.items cells)) none

pub returns-clause-memory : goal.returns-clause-memory
returns-clause-memory g c =
    let no_cell : c.replace.new.dest.items ≡ [] = rw c.replace.ensures.after c.new-2.ensures.items in
    HasNoMemory-table_of _ (ap (slots_of g.C.Cell.slot c.new.result.items) no_cell)

pub destroy_empty-requires : goal.destroy_empty-requires
destroy_empty-requires g c = grind (arith, common_steps)
