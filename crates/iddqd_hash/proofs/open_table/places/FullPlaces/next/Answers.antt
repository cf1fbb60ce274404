use Rattle.std.proofs.Common.{◌≡◌, ◌≤◌, ◌<◌, ℕ, rules, arith}
use Rattle.iddqd_hash.proofs.OpenAheadLemmas.{gaps-passed, gaps_on, sixteen-behind, IsAhead-next, IsAhead-behind, sixteen_before, first-onward, first-inside, first-gaps, first-full}
use Rattle.iddqd_hash.proofs.open_table.places.FullPlaces.next.Goals as goal

pub sixteens-init : goal.sixteens-init
sixteens-init c = (c.requires.ahead, omega arith, (λ k from to. absurd (omega arith)), omega arith)

pub full_places-self-requires : goal.full_places-self-requires
full_places-self-requires c =
    let at = c.sixteens.invariant in
    sixteen-behind _ _ _ _ _ at.0 at.1 at.2 c.sixteens-test.true c.requires.sixteens c.requires.some

pub overflow_add-self : goal.overflow_add-self
overflow_add-self c =
    let at = c.sixteens.invariant in
    let room = sixteen-behind _ _ _ _ _ at.0 at.1 at.2 c.sixteens-test.true c.requires.sixteens c.requires.some in
    search rules

pub sixteens-smaller : goal.sixteens-smaller
sixteens-smaller c =
    let at = c.sixteens.invariant in
    let room = sixteen-behind _ _ _ _ _ at.0 at.1 at.2 c.sixteens-test.true c.requires.sixteens c.requires.some in
    omega arith

pub sixteens-preserved : goal.sixteens-preserved
sixteens-preserved c =
    let at = c.sixteens.invariant in
    let none = c.sixteens-test.true in
    let room = sixteen-behind _ _ _ _ _ at.0 at.1 at.2 none c.requires.sixteens c.requires.some in
    let onward : c.args.self.now.at ≤ c.sixteens.self.end = omega (arith, at.1, at.0.before_end) in
    (IsAhead-next _ _ _ at.0.in_sixteens room c.full_places-self.ensures, onward, gaps-passed _ _ _ _ _ at.0 at.1 at.2 none, omega arith)

some : (n : ℕ) → (n ≡ 0 → ⊥) → 0 < n
some n other = omega arith

pub overflow_sub-here : goal.overflow_sub-here
overflow_sub-here c =
    let enough = sixteen_before _ _ _ _ c.sixteens.invariant.0 (some _ c.sixteens-test.false) in search rules

pub overflow_add-here : goal.overflow_add-here
overflow_add-here c =
    let inside = first-inside _ _ _ _ c.sixteens.invariant.0 (some _ c.sixteens-test.false) in
    search rules

pub overflow_add-self-2 : goal.overflow_add-self-2
overflow_add-self-2 c =
    let inside = first-inside _ _ _ _ c.sixteens.invariant.0 (some _ c.sixteens-test.false) in
    search rules

pub returns-clause-onward : goal.returns-clause-onward
returns-clause-onward c =
    omega (arith, c.sixteens.invariant.1, first-onward _ _ _ _ c.sixteens.invariant.0 (some _ c.sixteens-test.false))

pub returns-clause-inside : goal.returns-clause-inside
returns-clause-inside c =
    let ahead = c.sixteens.invariant.0 in
    omega (arith, first-inside _ _ _ _ ahead (some _ c.sixteens-test.false), ahead.inside)

pub returns-clause-gaps : goal.returns-clause-gaps
returns-clause-gaps c =
    let ahead = c.sixteens.invariant.0 in
    gaps_on _ _ c.sixteens.self.at _ c.sixteens.invariant.1 (first-onward _ _ _ _ ahead (some _ c.sixteens-test.false)) c.sixteens.invariant.2 (first-gaps _ _ _ _ ahead (some _ c.sixteens-test.false))

pub returns-clause-full : goal.returns-clause-full
returns-clause-full c = first-full _ _ _ _ c.sixteens.invariant.0 (some _ c.sixteens-test.false)

pub returns-clause-ahead : goal.returns-clause-ahead
returns-clause-ahead c =
    IsAhead-behind _ _ _ _ c.sixteens.invariant.0 (some _ c.sixteens-test.false) c.sixteens.invariant.3
