use Rattle.std.proofs.Common.{false, true, refl, arith}
use Rattle.std.proofs.lemmas.Grind.{common_steps}
use Rattle.std.specs.Fn.{TakesAt, CalledAt}
use Rattle.iddqd_hash.proofs.AskLemmas.{CanAsk-takes, CanAsk-asked}
use Rattle.iddqd_hash.proofs.UnderLemmas.{Contains-read, FindsPlace-read, AllRefused-read, under_read_other}
use Rattle.iddqd_hash.proofs.hash_table_reference.find_place.Goals.{else-stored-hash-via-then-stored-hash+else-eq, else-stored-hash-via-else-stored-hash}
use Rattle.iddqd_hash.proofs.hash_table_reference.find_place.Goals as goal

pub eq-requires : goal.eq-requires
eq-requires g c =
    CanAsk-takes (TakesAt g.F.FnMut) (CalledAt g.F.FnMut) _ _ _ c.loop-place.invariant.0 (Contains-read _ _ _ _ c.loop-place-test.true c.index-pairs-place.is c.if-stored-hash.true) _ refl

pub returns-then-eq : goal.returns-then-eq
returns-then-eq g c =
    let called : CalledAt g.F.FnMut c.loop-place.eq c.index-pairs-place.result.1 true c.eq.new.self =
    record { shown = _; shows = refl; called = rw c.if-eq.true at c.eq.ensures } in
    FindsPlace-read _ _ _ _ c.loop-place-test.true c.index-pairs-place.is (CalledAt g.F.FnMut) _ _ _ c.if-stored-hash.true c.loop-place.invariant.1 called

pub loop-place-preserved : goal.loop-place-preserved
loop-place-preserved g c =
    elim c.else-stored-hash.branch [
      | else-stored-hash-via-then-stored-hash+else-eq w ↦
          let called : CalledAt g.F.FnMut c.loop-place.eq c.index-pairs-place.result.1 false w.eq.new.self =
          record { shown = _; shows = refl; called = rw w.if-eq.false at w.eq.ensures } in
          let here = Contains-read _ _ _ _ c.loop-place-test.true c.index-pairs-place.is w.if-stored-hash.true in
          rw w.eq-is (
            CanAsk-asked (TakesAt g.F.FnMut) (CalledAt g.F.FnMut) _ _ _ false _ c.loop-place.invariant.0 here called,
            AllRefused-read _ _ _ _ c.loop-place-test.true c.index-pairs-place.is (CalledAt g.F.FnMut) _ _ _ w.if-stored-hash.true c.loop-place.invariant.1 called,
          )
      | else-stored-hash-via-else-stored-hash w ↦
          rw (w.eq-is, under_read_other _ _ _ _ c.loop-place-test.true c.index-pairs-place.is w.if-stored-hash.false) c.loop-place.invariant
    ]

pub returns : goal.returns
returns g c = grind (arith, common_steps)
