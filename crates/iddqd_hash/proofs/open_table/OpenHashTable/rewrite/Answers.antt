use Rattle.std.proofs.Common.{sym}
use Rattle.iddqd_hash.proofs.OpenAheadLemmas.{IsMultipleOf16-count}
use Rattle.iddqd_hash.proofs.OpenTableLemmas.{entries-table_of}
use Rattle.iddqd_hash.proofs.OpenResizeLemmas.{rewrite-sound, rewrite-rewritten, rewrite-memory}
use Rattle.iddqd_hash.proofs.open_table.OpenHashTable.rewrite.Goals as goal

pub rewrite_cells-requires-clause-probed : goal.rewrite_cells-requires-clause-probed
rewrite_cells-requires-clause-probed g c =
    rw (c.as_slice.ensures.value, c.as_mut_slice.ensures.value) c.self.invariant.sound.probed

pub rewrite_cells-requires-clause-sixteens : goal.rewrite_cells-requires-clause-sixteens
rewrite_cells-requires-clause-sixteens g c =
    rw c.as_slice.ensures.value (IsMultipleOf16-count _ c.self.invariant.sound.count)

pub rewrite_cells-requires-clause-len : goal.rewrite_cells-requires-clause-len
rewrite_cells-requires-clause-len g c =
    rw (c.as_slice.ensures.value, c.as_mut_slice.ensures.value) c.self.invariant.sound.counted

pub rewrite_cells-requires-clause-callable : goal.rewrite_cells-requires-clause-callable
rewrite_cells-requires-clause-callable g c =
    rw (c.as_slice.ensures.value, c.as_mut_slice.ensures.value) (rw (← c.self.view_is, entries-table_of) at c.requires)

pub invariant_of-self : goal.invariant_of-self
invariant_of-self g c =
    record {
      sound = rewrite-sound g.C.Cell.slot c.self.inside.tags c.self.inside.cells c.self.inside.len c.self.inside.used c.self.invariant.sound c.args.self.now (sym c.self.view_is) _ _ _ c.as_slice.ensures.value c.as_mut_slice.ensures.value c.rewrite_cells.auto.cells c.as_mut_slice.ensures.len c.rewrite_cells.ensures.same_hashes;
      exact_tags = c.self.invariant.exact_tags;
      exact_cells = c.self.invariant.exact_cells;
    }

pub returns-clause-rewritten : goal.returns-clause-rewritten
returns-clause-rewritten g c =
    rewrite-rewritten g.C.Cell.slot c.self.inside.tags c.self.inside.cells c.self.inside.len c.self.inside.used c.self.invariant.sound c.args.self.now (sym c.self.view_is) _ _ _ c.as_slice.ensures.value c.as_mut_slice.ensures.value c.rewrite_cells.auto.cells c.as_mut_slice.ensures.len _ c.rewrite_cells.ensures.rewritten

pub returns-clause-memory : goal.returns-clause-memory
returns-clause-memory g c =
    rewrite-memory g.C.Cell.slot c.self.inside.tags c.self.inside.cells c.self.inside.len c.self.inside.used c.self.invariant.sound c.args.self.now (sym c.self.view_is) _ _ _ c.as_slice.ensures.value c.as_mut_slice.ensures.value c.rewrite_cells.auto.cells c.as_mut_slice.ensures.len c.rewrite_cells.ensures.same_hashes
