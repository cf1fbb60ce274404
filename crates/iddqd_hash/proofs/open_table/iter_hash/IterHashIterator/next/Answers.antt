use Rattle.std.proofs.Common.{◌≡◌, ◌∙◌, ◌∷◌, Some, length, refl, sym, ap, subst, arith, rules}
use Rattle.std.proofs.lemmas.Option.{same_Some}
use Rattle.iddqd_hash.specs.OpenTable.{slots_of}
use Rattle.iddqd_hash.specs.OpenWalkUnder.{rest_under, GoesOn}
use Rattle.iddqd_hash.proofs.OpenLookupLemmas.{tag_read, value_read}
use Rattle.iddqd_hash.proofs.OpenWalkUnderLemmas.{GoesOn-inside, place_inside, rest-found, rest-none, GoesOn-next}
use Rattle.iddqd_hash.proofs.open_table.iter_hash.IterHashIterator.next.Goals as goal

pub near_match-requires-clause-power : goal.near_match-requires-clause-power
near_match-requires-clause-power g c = (c.self.invariant.goes_on _ c.in_ok-from.was).power

pub near_match-requires-clause-ends : goal.near_match-requires-clause-ends
near_match-requires-clause-ends g c = (c.self.invariant.goes_on _ c.in_ok-from.was).ends

pub near_match-requires-clause-inside : goal.near_match-requires-clause-inside
near_match-requires-clause-inside g c = GoesOn-inside _ _ _ (c.self.invariant.goes_on _ c.in_ok-from.was)

pub next-requires-clause-power : goal.next-requires-clause-power
next-requires-clause-power g c = (c.self.invariant.goes_on _ c.in_ok-from.was).power

pub pair_at-requires-clause-inside : goal.pair_at-requires-clause-inside
pair_at-requires-clause-inside g c =
    place_inside _ _ _ c.self.invariant.probed _ _ (c.self.invariant.goes_on _ c.in_ok-from.was) c.in-Some.ensures.0

pub pair_at-requires-clause-full : goal.pair_at-requires-clause-full
pair_at-requires-clause-full g c =
    let inside =
    place_inside _ _ _ c.self.invariant.probed _ _ (c.self.invariant.goes_on _ c.in_ok-from.was) c.in-Some.ensures.0 in
    omega (arith, tag_read _ _ _ _ _ inside c.self.invariant.probed c.in-Some.ensures.1.1)

steps_here :
    (g : _) (c : goal.After-pair_at g)
    → rest_under c.self.inside.hash (slots_of g.C.Cell.slot c.self.inside.tags.now c.self.inside.cells.now)
    c.self.inside.from
    ≡ c.pair_at.result.1.now
    ∷ rest_under c.self.inside.hash (slots_of g.C.Cell.slot c.self.inside.tags.now c.self.inside.cells.now)
    (Some c.next.result)
steps_here g c =
    let on = c.self.invariant.goes_on _ c.in_ok-from.was in
    let slots = slots_of g.C.Cell.slot c.self.inside.tags.now c.self.inside.cells.now in
    let found = value_read slots c.in-Some.place _ _ c.pair_at.ensures c.self.inside.hash _ c.in-Some.ensures.1.1 in
    rw (c.in_ok-from.was, c.next.ensures) (rest-found _ _ _ c.self.invariant.probed _ _ on c.in-Some.ensures.0 _ found)

pub invariant_of-self : goal.invariant_of-self
invariant_of-self g c =
    let on = c.self.invariant.goes_on _ c.in_ok-from.was in
    let probed = c.self.invariant.probed in
    let onward : GoesOn c.self.inside.tags.now c.self.inside.hash c.next.result =
    rw c.next.ensures (GoesOn-next _ _ _ probed _ _ on c.in-Some.ensures.0 _ c.in-Some.ensures.1.1) in
    record {
      probed = probed;
      goes_on = λ place is. subst (λ n. GoesOn c.self.inside.tags.now c.self.inside.hash n) (same_Some _ _ is) onward;
      counted = omega (arith, ap length (steps_here g c), c.self.invariant.counted);
    }

pub returns-in-Some-clause-steps : goal.returns-in-Some-clause-steps
returns-in-Some-clause-steps g c = sym c.self.view_is ∙ steps_here g c

pub returns-in-Some-clause-goes : goal.returns-in-Some-clause-goes
returns-in-Some-clause-goes g c = let steps = returns-in-Some-clause-steps g c in search rules

pub returns-in-None-clause-steps : goal.returns-in-None-clause-steps
returns-in-None-clause-steps g c =
    let on = c.self.invariant.goes_on _ c.in_ok-from.was in
    let ended = rest-none _ _ _ c.self.invariant.probed _ _ on c.in-None.ensures.1 c.in-None.ensures.2 in
    (sym c.self.view_is ∙ rw c.in_ok-from.was ended, refl)

pub next-requires-clause-inside : goal.next-requires-clause-inside
next-requires-clause-inside g c =
    let inside =
    place_inside _ _ _ c.self.invariant.probed _ _ (c.self.invariant.goes_on _ c.in_ok-from.was) c.in-Some.ensures.0 in
    omega (arith, inside)
