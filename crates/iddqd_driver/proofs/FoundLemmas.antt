-- Whether a hit is lesser, and whether an index is found alone by its first key.
use Rattle.std.proofs.Common.{◌≡◌, ◌∙◌, ◌↔◌, ◌<◌, ℕ, Bool, true, false, nat_eq, not, Option, Some, None, IsTrue, sym, ap, arith}
use Rattle.std.specs.Option.{option_eq}
use Rattle.std.specs.Ordering.{nat_cmp, is_lt}
use Rattle.std.proofs.lemmas.Bool.{false≢true}
use Rattle.std.proofs.lemmas.Grind.{common_steps}
use Rattle.std.proofs.lemmas.Option.{same_Some}
use Rattle.iddqd.specs.Store.{Store}
use Rattle.iddqd_keys.specs.Scan.{IsHit, IsKeyAt, passes_by}
use Rattle.iddqd_driver.specs.Keys.{Keys}
use Rattle.iddqd_driver.specs.State.{State}
use Rattle.iddqd_driver.specs.KeyIndexes.{hash_in, first_key_index, LooksUp}
use Rattle.iddqd_driver.specs.Validation.{HasLesserHit, IsFoundAlone}

module _ {T K : Type 0} (s : Store T) (first : T → K) (equal : K → Bool) (at ix : ℕ) where
  pub lesser_hit :
      (read : K) (lesser same : Bool)
      → lesser ≡ is_lt (nat_cmp at ix)
      → lesser ≡ true
      → IsKeyAt first s at read
      → same ≡ equal read
      → IsTrue same ↔ ((at < ix) × IsHit s (passes_by first equal) at)
  lesser_hit read lesser same lesser-is less (item, live, key) same-is =
      let tested : is_lt (nat_cmp at ix) ≡ true = sym lesser-is ∙ less in
      let below : at < ix = grind (arith, common_steps) in
      let as_item : same ≡ equal (first item) = same-is ∙ ap equal key in (
        λ yes. (below, (item, live, sym as_item ∙ yes)),
        λ hit. as_item ∙ ap (λ it. equal (first it)) (same_Some _ _ (sym live ∙ hit.1.1)) ∙ hit.1.2,
      )

  pub no_lesser_hit :
      (lesser : Bool)
      → lesser ≡ is_lt (nat_cmp at ix)
      → lesser ≡ false
      → IsTrue lesser ↔ ((at < ix) × IsHit s (passes_by first equal) at)
  no_lesser_hit lesser lesser-is not_less =
      let tested : is_lt (nat_cmp at ix) ≡ false = sym lesser-is ∙ not_less in (
        λ yes. absurd (false≢true (sym not_less ∙ yes)),
        λ hit. let below : at < ix = hit.0 in absurd (grind (arith, common_steps)),
      )

same_from :
    (a : Option ℕ) (ix : ℕ) (differs : Bool)
    → differs ≡ not (option_eq nat_eq a (Some ix))
    → differs ≡ false
    → a ≡ Some ix
same_from None ix differs is same = absurd (false≢true (sym same ∙ is))
same_from (Some at) ix differs is same =
    let equal : not (nat_eq at ix) ≡ false = sym is ∙ same in
    let one : at ≡ ix = grind (arith, common_steps) in
    ap Some one

module _ {T K1 K2 S : Type 0} (keys : Keys T K1 K2 S) (s : State T S) (ix : ℕ) (key : K1) where
  pub found_alone :
      (hash : ℕ) (found : Option ℕ) (differs lesser : Bool)
      → hash ≡ hash_in keys s key
      → LooksUp (first_key_index keys) s key found
      → differs ≡ not (option_eq nat_eq found (Some ix))
      → differs ≡ false
      → (HasLesserHit s.store s.filed hash (passes_by keys.first (keys.equal_first key)) ix → IsTrue lesser)
      → IsTrue (not lesser)
      → IsFoundAlone keys s ix key
  found_alone hash found differs lesser hash-is looked differs-is same has alone =
      let at = rw (same_from found ix differs differs-is same) at looked.found in
      record {
        filed = at.filed;
        alone = λ hit. absurd (not_both lesser alone (has (rw hash-is hit)));
      }
    where
      not_both : (b : Bool) → not b ≡ true → b ≡ true → ⊥
      not_both true turned told = false≢true turned
      not_both false turned told = false≢true told
