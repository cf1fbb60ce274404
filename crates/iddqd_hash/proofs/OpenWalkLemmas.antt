-- Walks by steps of one round a list of tags, the first place after the last.
use Rattle.std.proofs.Common.{◌≡◌, ◌∙◌, ℕ, ◌+◌, ◌-◌, ◌*◌, ◌/◌, ◌%◌, ◌<◌, ◌≤◌, List, Option, Some, None, length, slice_index, true, false, ltb, ltb-true, ltb-false, refl, sym, ap, subst, arith, add_assoc, add-zero}
use Rattle.std.proofs.Math.Nat.{mod-add-mod, add-mod-mod, mod-eq_of_lt, mod-lt, mul-add-mod_self_left, div-add-mod}
use borrow.Author.Count.{below_more}
use Rattle.iddqd_hash.specs.OpenTable.{HasEmpty, NoneEmpty, IsReached}
use Rattle.iddqd_hash.specs.OpenWalkUnder.{steps_to}

-- two walks, one from the end of the other
pub onward : (n from a b : ℕ) → ((from + a) % n + b) % n ≡ (from + (a + b)) % n
onward n from a b = mod-add-mod (from + a) n b ∙ ap (λ x. x % n) (add_assoc from a b)

whole : (n from k : ℕ) → 0 < n → from + (n - from % n) + k ≡ n * (from / n + 1) + k
whole n from k some =
    let below : from % n < n = mod-lt from some in
    let parts : n * (from / n) + from % n ≡ from = div-add-mod from n in
    let more : n * (from / n + 1) ≡ n * (from / n) + n = grind arith in
    omega arith

pub steps_to-walked : (n from s : ℕ) → s < n → steps_to n from ((from + s) % n) ≡ s
steps_to-walked n from s below =
    let some : 0 < n = omega arith in
    let moved : from + s + (n - from % n) ≡ from + (n - from % n) + s = omega arith in
    mod-add-mod (from + s) n (n - from % n)
    ∙ ap (λ x. x % n) (moved ∙ whole n from s some)
    ∙ mul-add-mod_self_left n (from / n + 1) s
    ∙ mod-eq_of_lt below

-- a walk comes to each place
pub walked-steps_to : (n from at : ℕ) → at < n → (from + steps_to n from at) % n ≡ at
walked-steps_to n from at below =
    let some : 0 < n = omega arith in
    let moved : from + (at + (n - from % n)) ≡ from + (n - from % n) + at = omega arith in
    add-mod-mod from (at + (n - from % n)) n
    ∙ ap (λ x. x % n) (moved ∙ whole n from at some)
    ∙ mul-add-mod_self_left n (from / n + 1) at
    ∙ mod-eq_of_lt below

pub same_steps : (n from a b : ℕ) → a < n → b < n → (from + a) % n ≡ (from + b) % n → a ≡ b
same_steps n from a b below_a below_b same =
    sym (steps_to-walked n from a below_a) ∙ ap (steps_to n from) same ∙ steps_to-walked n from b below_b

-- if some cell is empty, a probe past full and marked cells has not come round
pub steps_within : (tags : List ℕ) (from s : ℕ) → HasEmpty tags → NoneEmpty tags from s → s < length tags
steps_within tags from s (k, inside, empty) passed =
    let n = length tags in
    let e = steps_to n from k in
    let e_below : e < n = mod-lt (k + (n - from % n)) (omega arith) in
    let there : (from + e) % n ≡ k = walked-steps_to n from k inside in
    elim (ltb e s) as (λ b. ltb e s ≡ b → s < n) [
      | false ↦ λ is. let past : s ≤ e = ltb-false _ _ is in omega arith
      | true ↦ λ is.
          let used : 0 < slice_index tags ((from + e) % n) = passed e (ltb-true _ _ is) in
          let not_used : slice_index tags ((from + e) % n) ≡ 0 = ap (slice_index tags) there ∙ empty in
          absurd (omega arith)
    ] refl

abbrev pub IsReached-start : (tags : List ℕ) (from : ℕ) → IsReached tags from (from % length tags)
IsReached-start tags from =
    record {
      steps = 0;
      is_there = ap (λ x. x % length tags) (add-zero from);
      passed = λ k below. absurd (omega arith);
    }

module _ (tags : List ℕ) (from at : ℕ) (walk : IsReached tags from at) (used : 0 < slice_index tags at) where
  pub one_more : NoneEmpty tags from (walk.steps + 1)
  one_more =
      below_more (λ k. 0 < slice_index tags ((from + k) % length tags)) walk.steps walk.passed (subst (λ x. 0 < slice_index tags x) (sym walk.is_there) used)

  pub one_on : (from + (walk.steps + 1)) % length tags ≡ (at + 1) % length tags
  one_on = sym (onward (length tags) from walk.steps 1) ∙ ap (λ x. (x + 1) % length tags) walk.is_there

  abbrev pub IsReached-next : IsReached tags from ((at + 1) % length tags)
  IsReached-next =
      record {
        steps = walk.steps + 1;
        is_there = one_on;
        passed = one_more;
      }

-- how many places a walk has before it
abbrev pub places_left : ℕ → ℕ → ℕ → ℕ
places_left n from at = n - steps_to n from at

pub places_left-next :
    (tags : List ℕ) (from at : ℕ)
    → HasEmpty tags
    → IsReached tags from at
    → 0 < slice_index tags at
    → places_left (length tags) from ((at + 1) % length tags) < places_left (length tags) from at
places_left-next tags from at some walk used =
    let n = length tags in
    let within : walk.steps + 1 < n = steps_within tags from (walk.steps + 1) some (one_more tags from at walk used) in
    let now : steps_to n from at ≡ walk.steps =
    subst (λ x. steps_to n from x ≡ walk.steps) walk.is_there (steps_to-walked n from walk.steps (omega arith)) in
    let then : steps_to n from ((at + 1) % n) ≡ walk.steps + 1 =
    subst (λ x. steps_to n from x ≡ walk.steps + 1) (one_on tags from at walk used) (steps_to-walked n from (walk.steps + 1) within) in
    omega arith

-- one walk, and another from its end
module _ (tags : List ℕ) (from a b : ℕ) (walk : IsReached tags from a) (further : IsReached tags a b) where
  pub moved_on : (k : ℕ) → (from + (walk.steps + k)) % length tags ≡ (a + k) % length tags
  moved_on k = sym (onward (length tags) from walk.steps k) ∙ ap (λ x. (x + k) % length tags) walk.is_there

  pub passed_both : NoneEmpty tags from (walk.steps + further.steps)
  passed_both k below =
      elim (ltb k walk.steps) as (λ b. ltb k walk.steps ≡ b → 0 < slice_index tags ((from + k) % length tags)) [
        | true ↦ λ is. walk.passed k (ltb-true _ _ is)
        | false ↦ λ is.
            let past : walk.steps ≤ k = ltb-false _ _ is in
            let j : ℕ = k - walk.steps in
            let k-is : k ≡ walk.steps + j = omega arith in
            let same : (from + k) % length tags ≡ (a + j) % length tags =
            ap (λ x. (from + x) % length tags) k-is ∙ moved_on j in
            subst (λ x. 0 < slice_index tags x) (sym same) (further.passed j (omega arith))
      ] refl

  abbrev pub IsReached-on : IsReached tags from b
  IsReached-on = record { steps = walk.steps + further.steps; is_there = moved_on further.steps ∙ further.is_there; passed = passed_both }

  pub places_left-on : HasEmpty tags → places_left (length tags) from b ≤ places_left (length tags) from a
  places_left-on some =
      let n : ℕ = length tags in
      let within : walk.steps + further.steps < n =
      steps_within tags from (walk.steps + further.steps) some passed_both in
      let now : steps_to n from a ≡ walk.steps =
      subst (λ x. steps_to n from x ≡ walk.steps) walk.is_there (steps_to-walked n from walk.steps (omega arith)) in
      let then : steps_to n from b ≡ walk.steps + further.steps =
      subst (λ x. steps_to n from x ≡ walk.steps + further.steps) (moved_on further.steps ∙ further.is_there) (steps_to-walked n from (walk.steps + further.steps) within) in
      omega arith

-- how many places a probe has still to come to, when it has come to what it looked for or found none
abbrev pub found_left : ℕ → ℕ → Option ℕ → ℕ
found_left n from None = 0
found_left n from (Some place) = places_left n from place + 1

pub found_left-next :
    (n from place : ℕ) (r : Option ℕ)
    → ((next : ℕ) → r ≡ Some next → places_left n from next < places_left n from place)
    → found_left n from r < found_left n from (Some place)
found_left-next n from place None less = omega arith
found_left-next n from place (Some next) less =
    let here : places_left n from next < places_left n from place = less next refl in omega arith
