-- For callers: live indexes that are removed from a store one after the other.
use Rattle.std.proofs.Common.{◌≡◌, ◌≢◌, ◌∙◌, ◌+◌, ◌≤◌, ℕ, zero, suc, List, [], ◌∷◌, length, map, Option, Some, None, is_some, true, cond, refl, ap, arith}
use Rattle.std.specs.List.{Contains, count_by}
use Rattle.std.proofs.lemmas.List.Sums.{sum_by-cons}
use Rattle.iddqd.specs.Store.{Store, IsValid, get, live_count, removed}
use Rattle.iddqd.proofs.LiveCountLemmas.{live_count-removed}
use Rattle.iddqd.proofs.LiveLemmas.{item_at, get-removed_other}
use Rattle.iddqd.proofs.StoreLemmas.{contains_head, contains_tail, IsValid-removed}
use Rattle.iddqd_keys.specs.Removals.{IsIncreasing, padded, removed_all}
use Rattle.iddqd_keys.specs.Scan.{IsLive}

module _ {T : Type 0} where
  -- each of these indexes is live once those before it were removed
  abbrev pub AreLiveInTurn : Store T → List ℕ → Type 0
  AreLiveInTurn s [] = Unit {0}
  AreLiveInTurn s (ix ∷ rest) = ((item : T) × (get s ix ≡ Some item)) × AreLiveInTurn (removed s ix) rest

  pub AreLiveInTurn-rising :
      (s : Store T) (indexes : List ℕ)
      → IsIncreasing indexes
      → ((ix : ℕ) → Contains indexes ix → IsLive s ix)
      → AreLiveInTurn s indexes
  AreLiveInTurn-rising s [] rising live = tt
  AreLiveInTurn-rising s (x ∷ rest) rising live = (
    item_at s x (live x (contains_head x rest)),
    AreLiveInTurn-rising (removed s x) rest rising.1 (λ ix here.
        let above = rising.0 ix here in
        let other : ix ≢ x = λ same. omega (arith, same, above) in
        rw (get-removed_other s x ix other) (live ix (contains_tail x ix rest here))),
  )

  pub IsValid-removed_all :
      (s : Store T) (indexes : List ℕ)
      → AreLiveInTurn s indexes
      → IsValid s
      → IsValid (removed_all s indexes)
  IsValid-removed_all s [] live valid = valid
  IsValid-removed_all s (x ∷ rest) live valid =
      IsValid-removed_all (removed s x) rest live.1 (IsValid-removed s x live.0.0 valid live.0.1)

  -- so many less are left, and as many more indexes are free
  pub live_count-removed_all :
      (s : Store T) (indexes : List ℕ)
      → AreLiveInTurn s indexes
      → IsValid s
      → live_count (removed_all s indexes) + length indexes ≡ live_count s
  live_count-removed_all s [] live valid = omega arith
  live_count-removed_all s (x ∷ rest) live valid =
      let one = live_count-removed s x live.0.0 valid live.0.1 in
      let others = live_count-removed_all (removed s x) rest live.1 (IsValid-removed s x live.0.0 valid live.0.1) in
      omega (arith, one, others)

  pub free-removed_all :
      (s : Store T) (indexes : List ℕ)
      → length (removed_all s indexes).free ≡ length s.free + length indexes
  free-removed_all s [] = omega arith
  free-removed_all s (x ∷ rest) = let others = free-removed_all (removed s x) rest in omega (arith, others)

  pub limit-removed_all : (s : Store T) (indexes : List ℕ) → (removed_all s indexes).limit ≡ s.limit
  limit-removed_all s [] = refl
  limit-removed_all s (x ∷ rest) = limit-removed_all (removed s x) rest

-- The places where something comes back for each of these indexes have so many. Of the items that were removed, `at` is
-- `get` of the store, and of their indexes with them `index_with_item`.
module _ {A : Type 0} (at : ℕ → Option A) where
  pub count-padded :
      (places : ℕ) (indexes : List ℕ)
      → length indexes ≤ places
      → ((ix : ℕ) → Contains indexes ix → is_some (at ix) ≡ true)
      → count_by is_some (padded places (map at indexes)) ≡ length indexes
  count-padded zero [] fits there = refl
  count-padded zero (ix ∷ rest) fits there = absurd (omega (arith, fits))
  count-padded (suc n) [] fits there =
      let none = count-padded n [] (omega arith) there in
      sum_by-cons (λ (o : Option A). cond (is_some o) 1 0) None (padded n []) ∙ ap (λ k. 0 + k) none
  count-padded (suc n) (ix ∷ rest) fits there =
      let others = count-padded n rest (omega (arith, fits)) (λ j here. there j (contains_tail ix j rest here)) in
      let first = there ix (contains_head ix rest) in
      sum_by-cons (λ (o : Option A). cond (is_some o) 1 0) (at ix) (padded n (map at rest))
      ∙ ap (λ b. cond b 1 0 + count_by is_some (padded n (map at rest))) first
      ∙ omega (arith, others)
