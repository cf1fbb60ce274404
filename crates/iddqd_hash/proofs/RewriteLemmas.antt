-- The steps of a loop that puts an answer in the place of each value.
use Rattle.std.proofs.Common.{◌≡◌, ◌∷◌, [], ℕ, ◌+◌, ◌<◌, ◌≤◌, List, length, map, take, drop, set, get_or, refl, sym, ap, subst, ◌∙◌, arith, Contains}
use Rattle.std.specs.List.{AllZip}
use Rattle.std.specs.List.Sorted.{IsPermutation}
use Rattle.std.proofs.lemmas.List.{take_all, take_more_set, drop_more, drop-set-lt}
use Rattle.std.proofs.lemmas.List.Elements.{all_zip_more}
use Rattle.std.proofs.lemmas.List.Sorted.{IsPermutation-refl}
use Rattle.iddqd_hash.specs.HashTable.{values, Rewrites}
use Rattle.iddqd_hash.proofs.RetainLemmas.{Contains-values}

module _ {T : Type 0} (gives : T → T → Type 0) where
  -- the pairs below a place have their new values, and the others are as they were
  pub record Rewriting (old now : List (ℕ × T)) (at : ℕ) : Type 0 where
    pub each : AllZip (λ e w. (w.0 ≡ e.0) × gives e.1 w.1) (take at old) (take at now)
    pub behind : drop at now ≡ drop at old

  pub Rewriting-start : (old : List (ℕ × T)) → Rewriting old old 0
  Rewriting-start old = record { each = tt; behind = refl }

  module _
      (old now : List (ℕ × T)) (at : ℕ) (e : ℕ × T) (same_length : length now ≡ length old) (within : at < length old)
      (read : e ≡ get_or now at e) (state : Rewriting old now at)
    where
      both_ways : get_or old at e ∷ drop (at + 1) old ≡ get_or now at e ∷ drop (at + 1) now
      both_ways = sym (drop_more old at e within) ∙ sym state.behind ∙ drop_more now at e (omega arith)

      as_it_was : e ≡ get_or old at e
      as_it_was = read ∙ sym (ap (λ es. get_or es 0 e) both_ways)

      pub Contains-to_rewrite : Contains (values old) e.1
      Contains-to_rewrite = Contains-values old e (at, within, sym as_it_was)

      pub Rewriting-more : (w : T) → gives e.1 w → Rewriting old (set now at (e.0, w)) (at + 1)
      Rewriting-more w given =
          record {
            each =
                rw (take_more_set now at (e.0, w) (omega arith)) (all_zip_more _ old (take at now) at e (e.0, w) within as_it_was state.each (refl, given));
            behind = drop-set-lt (at + 1) now at (e.0, w) (omega arith) ∙ sym (ap (drop 1) both_ways);
          }

  pub Rewrites-from_rewriting :
      (old now : List (ℕ × T)) (at : ℕ)
      → length now ≡ length old
      → length old ≤ at
      → Rewriting old now at
      → Rewrites gives old now
  Rewrites-from_rewriting old now at same_length past state =
      record {
        rewritten = now;
        each = rw (take_all at old past, take_all at now (omega arith)) at state.each;
        moved = IsPermutation-refl now;
      }

-- Where each new value is a function of the old one, the new pairs are those that it gives.
module _ {T : Type 0} (gives : T → T → Type 0) (to : T → T) (says : (v w : T) → gives v w → w ≡ to v) where
  pairs_mapped :
      (es ws : List (ℕ × T))
      → AllZip (λ e w. (w.0 ≡ e.0) × gives e.1 w.1) es ws
      → ws ≡ map (λ e. (e.0, to e.1)) es
  pairs_mapped [] [] each = refl
  pairs_mapped [] (w ∷ ws) each = absurd each
  pairs_mapped (e ∷ es) [] each = absurd each
  pairs_mapped (e ∷ es) (w ∷ ws) each = λ i. (each.0.0 i, says e.1 w.1 each.0.1 i) ∷ pairs_mapped es ws each.1 i

  pub Rewrites-mapped :
      (old new : List (ℕ × T))
      → Rewrites gives old new
      → IsPermutation (map (λ e. (e.0, to e.1)) old) new
  Rewrites-mapped old new rewrites =
      subst (λ ws. IsPermutation ws new) (pairs_mapped old rewrites.rewritten rewrites.each) rewrites.moved

-- if clones of values equal them, a clone has the same pairs
module _ {T : Type 0} (is_clone : T → T → Type 0) (equal : (x y : T) → is_clone x y → y ≡ x) where
  all_equal : (es copies : List (ℕ × T)) → AllZip (λ e w. (w.0 ≡ e.0) × is_clone e.1 w.1) es copies → es ≡ copies
  all_equal [] [] all = refl
  all_equal [] (c ∷ copies) all = absurd all
  all_equal (e ∷ es) [] all = absurd all
  all_equal (e ∷ es) (c ∷ copies) all =
      let hash = sym all.0.0 in
      let value = sym (equal e.1 c.1 all.0.1) in
      let rest = all_equal es copies all.1 in
      λ i. (hash i, value i) ∷ rest i

  pub same_pairs : (es copies : List (ℕ × T)) → Rewrites is_clone es copies → IsPermutation es copies
  same_pairs es copies cloned =
      subst (λ xs. IsPermutation xs copies) (sym (all_equal es cloned.rewritten cloned.each)) cloned.moved
