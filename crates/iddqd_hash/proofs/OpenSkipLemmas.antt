-- Walks past places that are neither empty nor have a tag.
use Rattle.std.proofs.Common.{◌≡◌, ◌≢◌, ◌∙◌, ◌==◌, ◌||◌, ℕ, ◌+◌, ◌-◌, ◌%◌, ◌<◌, ◌≤◌, Bool, true, false, List, Option, Some, length, slice_index, ltb, ltb-true, ltb-false, eq-eqb, ne_eqb, inl, inr, refl, sym, ap, subst, arith}
use Rattle.std.proofs.lemmas.Bool.{cases_eq}
use Rattle.std.proofs.Math.Nat.{mod-eq_of_lt, mod-lt}
use Rattle.iddqd_hash.specs.OpenTable.{tag_of, is_stop, slot_at, NoStops, AllFull, Skips, IsReached, IsProbed, PassesBy}
use Rattle.iddqd_hash.proofs.OpenWalkLemmas.{onward}
use Rattle.iddqd_hash.proofs.OpenLookupLemmas.{tag_read}

or_false : (a b : Bool) → (a || b) ≡ false → (a ≡ false) × (b ≡ false)
or_false true b h = absurd (cc)
or_false false b h = (refl, h)

-- a place that isn't a stop
pub other_tag : (tag here : ℕ) → is_stop tag here ≡ false → (here ≢ tag) × (0 < here)
other_tag tag here other =
    let both = or_false (here == tag) (here == 0) other in
    let some : here ≢ 0 =
    λ none. let yes : (here == 0) ≡ true = eq-eqb here 0 none in let no : (here == 0) ≡ false = both.1 in cc in
    (λ same. let yes : (here == tag) ≡ true = eq-eqb here tag same in let no : (here == tag) ≡ false = both.0 in cc, omega arith)

-- a stop that hasn't the tag is empty
pub stop_empty : (tag here : ℕ) → is_stop tag here ≡ true → here ≢ tag → here ≡ 0
stop_empty tag here stop other =
    let no : (here == tag) ≡ false = ne_eqb here tag other in
    let none : (here == 0) ≡ true = rw no at stop in
    elim (cases_eq here 0) [
      | inl same ↦ same
      | inr some ↦ absurd (let not_none : (here == 0) ≡ false = ne_eqb here 0 some in cc)
    ]

pub Skips-run :
    (tags : List ℕ) (tag at run place : ℕ)
    → at + run ≤ length tags
    → NoStops tag tags at run
    → (at + run) % length tags ≡ place
    → Skips tags tag at place
Skips-run tags tag at run place inside none is =
    record {
      steps = run;
      is_there = is;
      others = λ k below. subst (λ x. is_stop tag (slice_index tags x) ≡ false) (sym (mod-eq_of_lt (omega arith))) (none (at + k) (omega arith) (omega arith));
    }

pub IsReached-run :
    (tags : List ℕ) (at run place : ℕ)
    → at + run ≤ length tags
    → AllFull tags at run
    → (at + run) % length tags ≡ place
    → IsReached tags at place
IsReached-run tags at run place inside full is =
    record {
      steps = run;
      is_there = is;
      passed = λ k below.
          let here : (at + k) % length tags ≡ at + k = mod-eq_of_lt (omega arith) in
          let tag : 128 ≤ slice_index tags (at + k) = full (at + k) (omega arith) (omega arith) in
          subst (λ x. 0 < slice_index tags x) (sym here) (omega arith);
    }

pub IsReached-skips : (tags : List ℕ) (tag from at : ℕ) → Skips tags tag from at → IsReached tags from at
IsReached-skips tags tag from at skips =
    record {
      steps = skips.steps;
      is_there = skips.is_there;
      passed = λ k below. (other_tag tag _ (skips.others k below)).1;
    }

-- a walk that passes by what isn't under a hash goes on past places that have other tags
module _
    {T : Type 0} (tags : List ℕ) (slots : List (Option (ℕ × T))) (hash from a b : ℕ) (probed : IsProbed tags slots)
    (some : 0 < length tags) (by : PassesBy tags slots hash from a) (skips : Skips tags (tag_of hash) a b)
  where
    on_from : (k : ℕ) → (from + (by.walk.steps + k)) % length tags ≡ (a + k) % length tags
    on_from k = sym (onward (length tags) from by.walk.steps k) ∙ ap (λ x. (x + k) % length tags) by.walk.is_there

    pub PassesBy-skips : PassesBy tags slots hash from b
    PassesBy-skips =
        record {
          walk = record {
            steps = by.walk.steps + skips.steps;
            is_there = on_from skips.steps ∙ skips.is_there;
            passed = λ k below.
                elim (ltb k by.walk.steps) as (λ b. ltb k by.walk.steps ≡ b → 0 < slice_index tags ((from + k) % length tags)) [
                  | true ↦ λ is. by.walk.passed k (ltb-true _ _ is)
                  | false ↦ λ is. (beyond k below (ltb-false _ _ is)).1
                ] refl;
          };
          others = λ k value below.
              elim (ltb k by.walk.steps) as (λ b. ltb k by.walk.steps ≡ b → slot_at slots ((from + k) % length tags) ≢ Some (hash, value)) [
                | true ↦ λ is. by.others k value (ltb-true _ _ is)
                | false ↦ λ is under.
                    (beyond k below (ltb-false _ _ is)).0 (tag_read tags slots ((from + k) % length tags) hash value (mod-lt (from + k) some) probed under)
              ] refl;
        }
      where
        beyond :
            (k : ℕ)
            → k < by.walk.steps + skips.steps
            → by.walk.steps ≤ k
            → (slice_index tags ((from + k) % length tags) ≢ tag_of hash) ×
            (0 < slice_index tags ((from + k) % length tags))
        beyond k below past =
            let j : ℕ = k - by.walk.steps in
            let k-is : k ≡ by.walk.steps + j = omega arith in
            let same : (from + k) % length tags ≡ (a + j) % length tags =
            ap (λ x. (from + x) % length tags) k-is ∙ on_from j in
            subst (λ x. (slice_index tags x ≢ tag_of hash) × (0 < slice_index tags x)) (sym same) (other_tag (tag_of hash) _ (skips.others j (omega arith)))
