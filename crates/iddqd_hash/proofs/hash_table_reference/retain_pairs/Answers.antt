use Rattle.std.proofs.Common.{◌∙◌, ◌<◌, true, false, length, refl, arith}
use Rattle.std.specs.Fn.{TakesAt, CalledAt}
use Rattle.iddqd_hash.proofs.AskLemmas.{CanAsk-takes, CanAsk-asked}
use Rattle.iddqd_hash.proofs.RetainLemmas.{Retaining-start, Contains-read_now, Retaining-keep, Retaining-drop, RetainsPairs-from_retaining}
use Rattle.iddqd_hash.proofs.hash_table_reference.retain_pairs.Goals as goal

pub f-requires : goal.f-requires
f-requires g c =
    let within : c.loop-place.place < length c.loop-place.pairs.items = omega arith in
    CanAsk-takes (TakesAt g.F.FnMut) (CalledAt g.F.FnMut) _ _ _ c.loop-place.invariant.2 (Contains-read_now (CalledAt g.F.FnMut) _ _ _ _ _ _ within c.index.ensures c.loop-place.invariant.3) _ refl

pub loop-place-init : goal.loop-place-init
loop-place-init g c = (omega arith, refl, c.requires, Retaining-start (CalledAt g.F.FnMut) _ _)

pub loop-place-preserved-then-f : goal.loop-place-preserved-then-f
loop-place-preserved-then-f g c =
    let at = c.loop-place.invariant in
    let within : c.loop-place.place < length c.loop-place.pairs.items = omega arith in
    let called : CalledAt g.F.FnMut c.loop-place.f c.index.result.now.1 true c.f.new.self =
    record { shown = _; shows = refl; called = rw c.if-f.true at c.f.ensures } in
    let here = Contains-read_now (CalledAt g.F.FnMut) _ _ _ _ _ _ within c.index.ensures at.3 in (
      at.0,
      at.1,
      CanAsk-asked (TakesAt g.F.FnMut) (CalledAt g.F.FnMut) _ _ _ true _ at.2 here called,
      Retaining-keep (CalledAt g.F.FnMut) _ _ _ _ _ _ within c.index.ensures at.3 _ called,
    )

pub loop-place-preserved : goal.loop-place-preserved
loop-place-preserved g c =
    let at = c.loop-place.invariant in
    let within : c.loop-place.place < length c.loop-place.pairs.items = omega arith in
    let called : CalledAt g.F.FnMut c.loop-place.f c.index.result.now.1 false c.f.new.self =
    record { shown = _; shows = refl; called = rw c.if-f.false at c.f.ensures } in
    let here = Contains-read_now (CalledAt g.F.FnMut) _ _ _ _ _ _ within c.index.ensures at.3 in (
      omega arith,
      c.swap_remove.ensures.capacity ∙ at.1,
      CanAsk-asked (TakesAt g.F.FnMut) (CalledAt g.F.FnMut) _ _ _ false _ at.2 here called,
      Retaining-drop (CalledAt g.F.FnMut) _ _ _ _ _ _ within c.index.ensures at.3 _ _ _ c.swap_remove.ensures.value c.swap_remove.ensures.items called,
    )

pub returns-clause-kept : goal.returns-clause-kept
returns-clause-kept g c =
    RetainsPairs-from_retaining (CalledAt g.F.FnMut) _ _ _ _ c.loop-place.place (omega arith) c.loop-place.invariant.3
