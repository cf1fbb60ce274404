-- The ends of a map: the first and the last index of its table.
use Rattle.std.proofs.Common.{◌≡◌, ◌≢◌, ◌∙◌, ◌-◌, ◌≤◌, inl, inr, ℕ, List, length, Option, Some, None, refl, sym, subst, Ordering, arith}
use Rattle.std.specs.List.{slice_get}
use Rattle.std.proofs.lemmas.Bool.{cases_lt}
use Rattle.std.proofs.lemmas.Option.{slice_get-get_or}
use Rattle.iddqd.specs.Store.{Store, get, live_count}
use Rattle.iddqd_map.specs.Map.{MapState, RemovesAt}
use Rattle.iddqd_by_order.specs.Ordered.{Holds}
use Rattle.iddqd_by_order.proofs.OrderedCountLemmas.{length-held}
use Rattle.iddqd_ord_map.specs.KeyOrder.{IsEnd, FindsEnd, PopsEnd}

-- nothing stands at a place behind the last one alone
past_end : (xs : List ℕ) (i : ℕ) → slice_get xs i ≡ None → length xs ≤ i
past_end xs i none = elim (cases_lt i (length xs)) [
  | inl within ↦ let here = slice_get-get_or xs i 0 within in absurd (cc)
  | inr past ↦ omega (arith, past)
]

module _ {T : Type 0} (s : Store T) (order : List ℕ) (held : Holds s order) where
  -- where there is no first index, or no last one, there is no item
  pub nothing_first : slice_get order 0 ≡ None → live_count s ≡ 0
  nothing_first none = omega (arith, past_end order 0 none, length-held s order held)

  pub nothing_last : slice_get order (length order - 1) ≡ None → live_count s ≡ 0
  nothing_last none = omega (arith, past_end order (length order - 1) none, length-held s order held)

module _ {T K : Type 0} (key_of : T → K) (compare : K → K → Ordering) (beyond : Ordering) where
  -- an item beyond whose key no other lies
  pub IsEnd-at :
      (s : Store T) (ix : ℕ)
      → (item : T) × (get s ix ≡ Some item)
      × ((j : ℕ) (other : T) → get s j ≡ Some other → compare (key_of other) (key_of item) ≢ beyond)
      → (item : T) × IsEnd key_of compare beyond s ix item
  IsEnd-at s ix (item, live, none) = (item, record { live = live; none_beyond = none })

  pub FindsEnd-none : (s : Store T) (r : Option T) → r ≡ None → live_count s ≡ 0 → FindsEnd key_of compare beyond s r
  FindsEnd-none s r is none = rw is none

  pub FindsEnd-found :
      (s : Store T) (ix : ℕ) (r : Option T)
      → (item : T) × IsEnd key_of compare beyond s ix item
      → r ≡ get s ix
      → FindsEnd key_of compare beyond s r
  FindsEnd-found s ix r (item, end) is = rw (is ∙ end.live) (ix, end)

  pub PopsEnd-none :
      (m : MapState T) (r : Option T)
      → r ≡ None
      → live_count m.store ≡ 0
      → PopsEnd key_of compare beyond m r m
  PopsEnd-none m r is none = rw is (none, refl)

  pub PopsEnd-removed :
      (old new : MapState T) (ix : ℕ) (r : Option T)
      → (item : T) × IsEnd key_of compare beyond old.store ix item
      → RemovesAt old ix r new
      → PopsEnd key_of compare beyond old r new
  PopsEnd-removed old new ix (Some item) (other, end) (live, left, memory) =
      let one : Some other ≡ Some item = sym end.live ∙ live in
      let same : other ≡ item = cc in
      record { ix = ix; end = subst (IsEnd key_of compare beyond old.store ix) same end; left = left; memory = memory }
  PopsEnd-removed old new ix None (other, end) (none, left) =
      absurd (let one : Some other ≡ None = sym end.live ∙ none in cc)
