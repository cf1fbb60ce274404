use Rattle.std.proofs.Common.{sym}
use Rattle.std.specs.Fn.{TakesAt, CalledAt}
use Rattle.iddqd_hash.proofs.AskLemmas.{CanAsk-joined}
use Rattle.iddqd_hash.proofs.OpenAheadLemmas.{IsMultipleOf16-count}
use Rattle.iddqd_hash.proofs.OpenTableLemmas.{entries-table_of}
use Rattle.iddqd_hash.proofs.OpenResizeLemmas.{retain-few, retain-sound, retain-kept, retain-memory}
use Rattle.iddqd_hash.proofs.open_table.OpenHashTable.retain_asked.Goals as goal

pub retain_cells-removed-requires-clause-probed : goal.retain_cells-removed-requires-clause-probed
retain_cells-removed-requires-clause-probed g c =
    rw (c.as_mut_slice.ensures.value, c.as_mut_slice-2.ensures.value) c.self.invariant.sound.probed

pub retain_cells-removed-requires-clause-sixteens : goal.retain_cells-removed-requires-clause-sixteens
retain_cells-removed-requires-clause-sixteens g c =
    rw c.as_mut_slice.ensures.value (IsMultipleOf16-count _ c.self.invariant.sound.count)

pub retain_cells-removed-requires-clause-len : goal.retain_cells-removed-requires-clause-len
retain_cells-removed-requires-clause-len g c =
    rw (c.as_mut_slice.ensures.value, c.as_mut_slice-2.ensures.value) c.self.invariant.sound.counted

pub retain_cells-removed-requires-clause-callable : goal.retain_cells-removed-requires-clause-callable
retain_cells-removed-requires-clause-callable g c =
    let can = CanAsk-joined (TakesAt g.F.FnMut) (CalledAt g.F.FnMut) _ _ c.requires.each c.requires.again in
    rw (c.as_mut_slice.ensures.value, c.as_mut_slice-2.ensures.value) (rw (← c.self.view_is, entries-table_of) at can)

pub overflow_sub-self : goal.overflow_sub-self
overflow_sub-self g c =
    retain-few g.C.Cell.slot c.self.inside.tags c.self.inside.cells c.self.inside.len c.self.inside.used c.self.invariant.sound c.args.self.now (sym c.self.view_is) _ _ _ _ c.as_mut_slice.ensures.value c.as_mut_slice-2.ensures.value c.retain_cells-removed.auto.tags c.as_mut_slice.ensures.len c.retain_cells-removed.auto.cells c.as_mut_slice-2.ensures.len _ c.retain_cells-removed.ensures.counted

pub invariant_of-self : goal.invariant_of-self
invariant_of-self g c =
    record {
      sound = retain-sound g.C.Cell.slot c.self.inside.tags c.self.inside.cells c.self.inside.len c.self.inside.used c.self.invariant.sound c.args.self.now (sym c.self.view_is) _ _ _ _ c.as_mut_slice.ensures.value c.as_mut_slice-2.ensures.value c.retain_cells-removed.auto.tags c.as_mut_slice.ensures.len c.retain_cells-removed.auto.cells c.as_mut_slice-2.ensures.len _ c.retain_cells-removed.ensures.counted c.retain_cells-removed.ensures.probed c.retain_cells-removed.ensures.marked;
      exact_tags = c.self.invariant.exact_tags;
      exact_cells = c.self.invariant.exact_cells;
    }

pub returns-clause-kept : goal.returns-clause-kept
returns-clause-kept g c =
    retain-kept g.C.Cell.slot c.self.inside.tags c.self.inside.cells c.self.inside.len c.self.inside.used c.self.invariant.sound c.args.self.now (sym c.self.view_is) _ _ _ _ c.as_mut_slice.ensures.value c.as_mut_slice-2.ensures.value c.retain_cells-removed.auto.tags c.as_mut_slice.ensures.len c.retain_cells-removed.auto.cells c.as_mut_slice-2.ensures.len (CalledAt g.F.FnMut) _ _ c.retain_cells-removed.ensures.kept

pub returns-clause-memory : goal.returns-clause-memory
returns-clause-memory g c =
    retain-memory g.C.Cell.slot c.self.inside.tags c.self.inside.cells c.self.inside.len c.self.inside.used c.self.invariant.sound c.args.self.now (sym c.self.view_is) _ _ _ _ c.as_mut_slice.ensures.value c.as_mut_slice-2.ensures.value c.retain_cells-removed.auto.tags c.as_mut_slice.ensures.len c.retain_cells-removed.auto.cells c.as_mut_slice-2.ensures.len _ c.retain_cells-removed.ensures.counted
