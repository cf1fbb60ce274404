use Rattle.std.proofs.Common.{◌∙◌, refl, sym}
use Rattle.std.specs.Fn.{TakesAt}
use Rattle.iddqd_hash.proofs.OpenCellLemmas.{cells_long}
use Rattle.iddqd_hash.proofs.OpenVisitLemmas.{Retaining-start, Retaining-sixteens, Retaining-some, Retaining-end, Retaining-full, Retaining-takes, Retaining-fits, Retaining-keep, Retaining-drop}
use Rattle.iddqd_hash.proofs.open_table.cells.retain_cells.Goals as goal

pub asking-init : goal.asking-init
asking-init g c =
    Retaining-start _ _ _ _ _ _ _ _ _ c.new-places.ensures.at c.new-places.ensures.end c.new-places.ensures.mask c.requires.callable c.requires.probed c.requires.len

pub next-here-requires-clause-sixteens : goal.next-here-requires-clause-sixteens
next-here-requires-clause-sixteens g c =
    Retaining-sixteens _ _ _ _ _ c.requires.probed _ _ _ _ _ _ _ _ c.asking.invariant c.requires.sixteens

pub next-here-requires-clause-ahead : goal.next-here-requires-clause-ahead
next-here-requires-clause-ahead g c = c.asking.invariant.ahead

pub next-here-requires-clause-some : goal.next-here-requires-clause-some
next-here-requires-clause-some g c =
    Retaining-some _ _ _ _ _ c.requires.probed _ _ _ _ _ _ _ _ c.asking.invariant c.asking-test.true

pub pair_at-requires-clause-probed : goal.pair_at-requires-clause-probed
pair_at-requires-clause-probed g c = c.asking.invariant.probed

pub pair_at-requires-clause-inside : goal.pair_at-requires-clause-inside
pair_at-requires-clause-inside g c = c.next-here.ensures.inside

pub pair_at-requires-clause-full : goal.pair_at-requires-clause-full
pair_at-requires-clause-full g c = c.next-here.ensures.full

pub f-requires : goal.f-requires
f-requires g c =
    let here = c.next-here.ensures in
    Retaining-takes (TakesAt g.F.FnMut) _ _ _ _ c.requires.probed _ _ _ _ _ _ _ _ c.asking.invariant _ here.onward here.inside here.gaps here.full _ _ c.pair_at.ensures _ refl

pub take-requires-clause-inside : goal.take-requires-clause-inside
take-requires-clause-inside g c = c.next-here.ensures.inside

pub take-requires-clause-same_length : goal.take-requires-clause-same_length
take-requires-clause-same_length g c =
    sym (cells_long g.C.Cell.slot c.asking.tags c.asking.cells) ∙ c.asking.invariant.probed.same_length

pub take-requires-clause-some : goal.take-requires-clause-some
take-requires-clause-some g c =
    let here = c.next-here.ensures in
    Retaining-full _ _ _ _ _ c.requires.probed _ _ _ _ _ _ _ _ c.asking.invariant _ here.onward here.inside here.gaps here.full

pub overflow_add-removed : goal.overflow_add-removed
overflow_add-removed g c =
    let here = c.next-here.ensures in
    Retaining-fits _ _ _ _ _ c.requires.probed _ _ _ _ _ _ _ _ c.asking.invariant _ here.onward here.inside here.gaps here.full _ _ c.pair_at.ensures _ c.requires.len c.ranges.len.fits

pub asking-preserved-then-f : goal.asking-preserved-then-f
asking-preserved-then-f g c =
    let here = c.next-here.ensures in
    Retaining-keep _ _ _ _ _ c.requires.probed _ _ _ _ _ _ _ _ c.asking.invariant _ here.onward here.inside here.gaps here.full _ _ c.pair_at.ensures _ _ _ _ (record { shown = _; shows = refl; called = rw c.if-f.true at c.f.ensures }) here.behind here.ahead

pub asking-preserved : goal.asking-preserved
asking-preserved g c =
    let here = c.next-here.ensures in
    Retaining-drop _ _ _ _ _ c.requires.probed _ _ _ _ _ _ _ _ c.asking.invariant _ here.onward here.inside here.gaps here.full _ _ c.pair_at.ensures _ _ _ _ _ _ (record { shown = _; shows = refl; called = rw c.if-f.false at c.f.ensures }) here.behind here.ahead c.take.ensures.tags c.take.ensures.slots

pub returns-clause-kept : goal.returns-clause-kept
returns-clause-kept g c =
    Retaining-end _ _ _ _ _ c.requires.probed _ _ _ _ _ _ _ _ c.asking.invariant c.asking-test.false

pub returns-clause-probed : goal.returns-clause-probed
returns-clause-probed g c = c.asking.invariant.probed

pub returns-clause-marked : goal.returns-clause-marked
returns-clause-marked g c = c.asking.invariant.marked

pub returns-clause-counted : goal.returns-clause-counted
returns-clause-counted g c = c.asking.invariant.counted
