use Rattle.std.proofs.Common.{◌∙◌, arith}
use Rattle.iddqd_hash.specs.HashTable.{memory}
use Rattle.iddqd_hash.specs.OpenTable.{table_of}
use Rattle.iddqd_hash.proofs.OpenCellLemmas.{cells_long}
use Rattle.iddqd_hash.proofs.OpenAheadLemmas.{IsMultipleOf16-count}
use Rattle.iddqd_hash.proofs.CopyLemmas.{hashes_of_clones, Rewrites-slots}
use Rattle.iddqd_hash.proofs.OpenTableLemmas.{entries-table_of, IsSound-rewritten}
use Rattle.iddqd_hash.proofs.open_table.copies.OpenHashTableClone.clone.Goals as goal

pub cloned_cells-requires-clause-sixteens : goal.cloned_cells-requires-clause-sixteens
cloned_cells-requires-clause-sixteens g c =
    rw c.as_slice-2.ensures.value (IsMultipleOf16-count _ c.self.invariant.sound.count)

pub invariant_of-result : goal.invariant_of-result
invariant_of-result g c =
    record {
      sound = rw (c.in_ok-copied_exactly.ensures.items ∙ c.as_slice.ensures.value)
          (IsSound-rewritten _ _ _ _ _ c.self.invariant.sound (hashes_of_clones g.T.Clone.is_clone _ _ (rw (c.as_slice-2.ensures.value, c.as_slice-3.ensures.value) at c.in_ok-cloned_cells.ensures.clones)));
      exact_tags = c.in_ok-copied_exactly.ensures.exact;
      exact_cells = c.in_ok-cloned_cells.ensures.exact;
    }

pub returns-clause-cases : goal.returns-clause-cases
returns-clause-cases g c =
    rw (← c.self.view_is, entries-table_of, entries-table_of, c.in_ok-copied_exactly.ensures.items ∙ c.as_slice.ensures.value) (Rewrites-slots g.T.Clone.is_clone _ _ (rw (c.as_slice-2.ensures.value, c.as_slice-3.ensures.value) at c.in_ok-cloned_cells.ensures.clones))

pub returns-clause-memory : goal.returns-clause-memory
unfolding memory table_of
returns-clause-memory g c =
    rw (← c.self.view_is) (omega (arith, c.in_ok-cloned_cells.ensures.len, c.as_slice-3.ensures.len, cells_long g.C.Cell.slot c.self.inside.tags.items c.self.inside.cells.items, cells_long g.C.Cell.slot c.in_ok-copied_exactly.field-0.items c.in_ok-cloned_cells.field-0.items))

pub cloned_cells-requires-clause-probed : goal.cloned_cells-requires-clause-probed
cloned_cells-requires-clause-probed g c =
    rw (c.as_slice-2.ensures.value, c.as_slice-3.ensures.value) c.self.invariant.sound.probed

pub cloned_cells-requires-clause-len : goal.cloned_cells-requires-clause-len
cloned_cells-requires-clause-len g c =
    rw (c.as_slice-2.ensures.value, c.as_slice-3.ensures.value) c.self.invariant.sound.counted
