use Rattle.std.proofs.Common.{refl}
use Rattle.std.specs.Fn.{TakesAt, CalledAt}
use Rattle.iddqd_hash.proofs.OpenFindLemmas.{home_inside, Trying-start, Trying-missed, Trying-inside, Trying-full, Trying-value, Trying-takes, Trying-hit, Trying-next, Trying-smaller}
use Rattle.iddqd_hash.proofs.open_table.cells.find_cell.Goals as goal

pub near_match-found-requires-clause-inside : goal.near_match-found-requires-clause-inside
near_match-found-requires-clause-inside g c =
    home_inside (TakesAt g.F.FnMut) (CalledAt g.F.FnMut) c.args.eq _ _ _ c.requires.probed c.requires.ends _ c.home_of.ensures

pub loop-found-init : goal.loop-found-init
loop-found-init g c =
    Trying-start _ _ _ _ _ _ c.requires.probed c.requires.ends _ _ c.home_of.ensures c.requires.callable c.near_match-found.ensures

pub pair_at-requires-clause-inside : goal.pair_at-requires-clause-inside
pair_at-requires-clause-inside g c =
    Trying-inside _ _ _ _ _ _ c.requires.probed c.requires.ends _ _ _ c.loop-found.invariant c.in-Some.is

pub pair_at-requires-clause-full : goal.pair_at-requires-clause-full
pair_at-requires-clause-full g c =
    Trying-full _ _ _ _ _ _ c.requires.probed c.requires.ends _ _ _ c.loop-found.invariant c.in-Some.is

pub eq-requires : goal.eq-requires
eq-requires g c =
    Trying-takes _ _ _ _ _ _ c.requires.probed c.requires.ends _ _ _ c.loop-found.invariant c.in-Some.is _ _ c.pair_at.ensures _ refl

pub returns-then-eq-clause-place : goal.returns-then-eq-clause-place
returns-then-eq-clause-place g c =
    Trying-hit _ _ _ _ _ _ c.requires.probed c.requires.ends _ _ _ c.loop-found.invariant c.in-Some.is _ _ c.pair_at.ensures _ (record { shown = _; shows = refl; called = rw c.if-eq.true at c.eq.ensures })

pub returns-then-eq-clause-value : goal.returns-then-eq-clause-value
returns-then-eq-clause-value g c =
    Trying-value _ _ _ _ _ _ c.requires.probed c.requires.ends _ _ _ c.loop-found.invariant c.in-Some.is _ _ c.pair_at.ensures

pub next-requires-clause-inside : goal.next-requires-clause-inside
next-requires-clause-inside g c =
    Trying-inside _ _ _ _ _ _ c.requires.probed c.requires.ends _ _ _ c.loop-found.invariant c.in-Some.is

pub loop-found-preserved : goal.loop-found-preserved
loop-found-preserved g c =
    Trying-next _ _ _ _ _ _ c.requires.probed c.requires.ends _ _ _ c.loop-found.invariant c.in-Some.is _ _ c.pair_at.ensures _ (record { shown = _; shows = refl; called = rw c.if-eq.false at c.eq.ensures }) _ c.next.ensures _ c.later_match-found.ensures

pub loop-found-smaller : goal.loop-found-smaller
loop-found-smaller g c =
    Trying-smaller _ _ _ _ _ _ c.requires.probed c.requires.ends _ _ _ c.loop-found.invariant c.in-Some.is _ _ c.pair_at.ensures _ (record { shown = _; shows = refl; called = rw c.if-eq.false at c.eq.ensures }) _ c.next.ensures _ c.later_match-found.ensures

pub returns-clause-place : goal.returns-clause-place
returns-clause-place g c =
    Trying-missed _ _ _ _ _ _ c.requires.probed c.requires.ends _ _ c.loop-found.invariant c.in_default.not-Some
