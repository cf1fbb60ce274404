-- For callers: how many items each step of a store leaves.
use Rattle.std.proofs.Common.{◌≡◌, ◌+◌, ℕ, List, [], ◌∷◌, length, Option, Some, None, arith, length-set}
use Rattle.std.proofs.lemmas.List.{length_push}
use Rattle.iddqd.specs.Store.{Store, IsValid, IsFull, get, live_count, inserted, removed, rebound}
use Rattle.iddqd.proofs.StoreLemmas.{IsValid-inserted, IsValid-removed, IsValid-rebound}

module _ {T : Type 0} where
  -- an insert leaves one more
  pub live_count-inserted :
      (s : Store T) (item : T)
      → IsValid s
      → (IsFull s → ⊥)
      → live_count (inserted s item) ≡ live_count s + 1
  live_count-inserted s item valid not_full =
      by_free s.items s.free valid.counted (IsValid-inserted s item valid not_full).counted
    where
      by_free :
          (items : List (Option T)) (free : List ℕ)
          → live_count (record { items = items; free = free; limit = s.limit }) + length free ≡ length items
          → live_count (inserted (record { items = items; free = free; limit = s.limit }) item) + length
          (inserted (record { items = items; free = free; limit = s.limit }) item).free ≡ length
          (inserted (record { items = items; free = free; limit = s.limit }) item).items
          → live_count (inserted (record { items = items; free = free; limit = s.limit }) item) ≡ live_count
          (record { items = items; free = free; limit = s.limit }) + 1
      by_free items [] was is = omega (arith, length_push items (Some item))
      by_free items (ix ∷ rest) was is = omega (arith, length-set items ix (Some item))

  -- a removal leaves one less
  pub live_count-removed :
      (s : Store T) (ix : ℕ) (item : T)
      → IsValid s
      → get s ix ≡ Some item
      → live_count s ≡ live_count (removed s ix) + 1
  live_count-removed s ix item valid live =
      let was = valid.counted in
      let is = (IsValid-removed s ix item valid live).counted in
      omega (arith, was, is, length-set s.items ix None)

  -- a replacement leaves as many
  pub live_count-rebound :
      (s : Store T) (ix : ℕ) (item was : T)
      → IsValid s
      → get s ix ≡ Some was
      → live_count (rebound s ix item) ≡ live_count s
  live_count-rebound s ix item was valid live =
      let before = valid.counted in
      let after = (IsValid-rebound s ix item was valid live).counted in
      omega (arith, before, after, length-set s.items ix (Some item))
