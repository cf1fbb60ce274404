-- Walks by steps of one past full cells alone.
use Rattle.std.proofs.Common.{◌≡◌, ◌∙◌, ℕ, ◌+◌, ◌-◌, ◌%◌, ◌<◌, ◌≤◌, List, length, slice_index, true, false, ltb, ltb-true, ltb-false, refl, sym, ap, subst, arith, add-zero}
use Rattle.std.proofs.Math.Nat.{mod-eq_of_lt}
use borrow.Author.Count.{below_more}
use Rattle.iddqd_hash.specs.OpenTable.{AllFull, IsReached}
use Rattle.iddqd_hash.specs.OpenRebuild.{IsPastFull}
use Rattle.iddqd_hash.proofs.OpenWalkLemmas.{onward}

pub IsReached-past_full : (tags : List ℕ) (from at : ℕ) → IsPastFull tags from at → IsReached tags from at
IsReached-past_full tags from at walk =
    record {
      steps = walk.steps;
      is_there = walk.is_there;
      passed = λ k below. let full : 128 ≤ slice_index tags ((from + k) % length tags) = walk.full k below in omega arith;
    }

pub IsPastFull-start : (tags : List ℕ) (from : ℕ) → IsPastFull tags from (from % length tags)
IsPastFull-start tags from =
    record {
      steps = 0;
      is_there = ap (λ x. x % length tags) (add-zero from);
      full = λ k below. absurd (omega arith);
    }

pub IsPastFull-next :
    (tags : List ℕ) (from at : ℕ)
    → IsPastFull tags from at
    → 128 ≤ slice_index tags at
    → IsPastFull tags from ((at + 1) % length tags)
IsPastFull-next tags from at walk full =
    record {
      steps = walk.steps + 1;
      is_there = sym (onward (length tags) from walk.steps 1) ∙ ap (λ x. (x + 1) % length tags) walk.is_there;
      full =
          below_more (λ k. 128 ≤ slice_index tags ((from + k) % length tags)) walk.steps walk.full (subst (λ x. 128 ≤ slice_index tags x) (sym walk.is_there) full);
    }

-- one walk, and another from its end
module _ (tags : List ℕ) (from a b : ℕ) (walk : IsPastFull tags from a) (further : IsPastFull tags a b) where
  moved_on : (k : ℕ) → (from + (walk.steps + k)) % length tags ≡ (a + k) % length tags
  moved_on k = sym (onward (length tags) from walk.steps k) ∙ ap (λ x. (x + k) % length tags) walk.is_there

  full_both : (k : ℕ) → k < walk.steps + further.steps → 128 ≤ slice_index tags ((from + k) % length tags)
  full_both k below =
      elim (ltb k walk.steps) as (λ b. ltb k walk.steps ≡ b → 128 ≤ slice_index tags ((from + k) % length tags)) [
        | true ↦ λ is. walk.full k (ltb-true _ _ is)
        | false ↦ λ is.
            let past : walk.steps ≤ k = ltb-false _ _ is in
            let j : ℕ = k - walk.steps in
            let k-is : k ≡ walk.steps + j = omega arith in
            let same : (from + k) % length tags ≡ (a + j) % length tags =
            ap (λ x. (from + x) % length tags) k-is ∙ moved_on j in
            subst (λ x. 128 ≤ slice_index tags x) (sym same) (further.full j (omega arith))
      ] refl

  pub IsPastFull-on : IsPastFull tags from b
  IsPastFull-on = record { steps = walk.steps + further.steps; is_there = moved_on further.steps ∙ further.is_there; full = full_both }

pub IsPastFull-run :
    (tags : List ℕ) (at run place : ℕ)
    → at + run ≤ length tags
    → AllFull tags at run
    → (at + run) % length tags ≡ place
    → IsPastFull tags at place
IsPastFull-run tags at run place inside full is =
    record {
      steps = run;
      is_there = is;
      full = λ k below. subst (λ x. 128 ≤ slice_index tags x) (sym (mod-eq_of_lt (omega arith))) (full (at + k) (omega arith) (omega arith));
    }

-- a probe past full cells still is one if more cells are full
pub IsPastFull-kept :
    (tags now : List ℕ) (from at : ℕ)
    → length now ≡ length tags
    → ((k : ℕ) → 128 ≤ slice_index tags k → 128 ≤ slice_index now k)
    → IsPastFull tags from at
    → IsPastFull now from at
IsPastFull-kept tags now from at same stays walk =
    record {
      steps = walk.steps;
      is_there = ap (λ n. (from + walk.steps) % n) same ∙ walk.is_there;
      full = λ k below. subst (λ n. 128 ≤ slice_index now ((from + k) % n)) (sym same) (stays _ (walk.full k below));
    }
