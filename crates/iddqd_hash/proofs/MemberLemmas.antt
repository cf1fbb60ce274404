-- What a map of indexes to hashes has after an insert, a removal and a renaming.
use Rattle.std.proofs.Common.{◌≡◌, ◌≢◌, ◌∙◌, ℕ, true, false, cond, Option, Some, None, IsSome, refl, sym, ap, subst}
use Rattle.std.specs.Ordering.{nat_cmp, eq_by_cmp, is_eq}
use Rattle.std.specs.FinMap as finite
use Rattle.std.specs.FinMap.{FinMap}
use Rattle.std.proofs.lemmas.Cmp.{nat_cmp_total, tied_itself}
use Rattle.iddqd_hash.specs.MapHashTable.{Renames}
use Rattle.iddqd_hash.proofs.FiledLemmas.{same_index}

module _ {X : Type 0} (m : FinMap nat_cmp X) (ix : ℕ) where
  tied : eq_by_cmp nat_cmp ix ix ≡ true
  tied = ap is_eq (tied_itself nat_cmp_total ix)

  untied : (j : ℕ) → j ≢ ix → eq_by_cmp nat_cmp j ix ≡ false
  untied j other =
      elim (eq_by_cmp nat_cmp j ix) as (λ b. eq_by_cmp nat_cmp j ix ≡ b → b ≡ false) [
        | true ↦ λ is. absurd (other (same_index j ix is))
        | false ↦ λ _. refl
      ] refl

  pub get-insert_at : (x : X) → finite.get (finite.insert m ix x) ix ≡ Some x
  get-insert_at x = finite.get-insert nat_cmp_total m ix x ix ∙ ap (λ b. cond b (Some x) (finite.get m ix)) tied

  pub get-insert_other : (x : X) (j : ℕ) → j ≢ ix → finite.get (finite.insert m ix x) j ≡ finite.get m j
  get-insert_other x j other =
      finite.get-insert nat_cmp_total m ix x j ∙ ap (λ b. cond b (Some x) (finite.get m j)) (untied j other)

  pub get-remove_at : finite.get (finite.remove m ix) ix ≡ None
  get-remove_at = finite.get-remove nat_cmp_total m ix ix ∙ ap (λ b. cond b None (finite.get m ix)) tied

  pub get-remove_other : (j : ℕ) → j ≢ ix → finite.get (finite.remove m ix) j ≡ finite.get m j
  get-remove_other j other =
      finite.get-remove nat_cmp_total m ix j ∙ ap (λ b. cond b None (finite.get m j)) (untied j other)

-- what is filed has a hash
pub filed_hash : (o : Option ℕ) → IsSome o → (hash : ℕ) × (o ≡ Some hash)
filed_hash (Some hash) here = (hash, refl)
filed_hash None here = absurd (cc)

pub filed_at : (o : Option ℕ) (hash : ℕ) → o ≡ Some hash → IsSome o
filed_at o hash is = rw is refl

-- names that agree on what is filed rename alike
pub Renames-alike :
    (f g : ℕ → ℕ) (old new : FinMap nat_cmp ℕ)
    → ((ix : ℕ) → IsSome (finite.get old ix) → f ix ≡ g ix)
    → Renames f old new
    → Renames g old new
Renames-alike f g old new same renames = record {
  each = λ ix hash is. subst (λ at. finite.get new at ≡ Some hash) (same ix (filed_at _ hash is)) (renames.each ix hash is);
  no_other = λ at hash is.
      let (ix, named, was) = renames.no_other at hash is in
      (ix, sym (same ix (filed_at _ hash was)) ∙ named, was);
}
