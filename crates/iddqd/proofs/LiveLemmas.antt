-- What the indexes of a store have after an insert and after a removal, and how its remap names the live ones.
use Rattle.std.proofs.Common.{◌≡◌, ◌≢◌, ◌∙◌, inl, inr, ◌<◌, ℕ, List, [], ◌∷◌, ◌++◌, length, get_or, Option, Some, None, is_some, IsSome, cond, refl, sym, arith}
use Rattle.std.proofs.lemmas.Bool.{cases_lt}
use Rattle.std.proofs.lemmas.List.{get_or_past, get_or_push, get_or_append_left, get_or-set_same, get_or-set_other, length_push}
use Rattle.std.proofs.lemmas.List.Sums.{get_or-le-sum_by}
use Rattle.iddqd.specs.Store.{Store, IsValid, get, live_count, next_index, inserted, removed}
use Rattle.iddqd.specs.Compaction.{IsRemapOf, CanRemap, remapped, rank}
use Rattle.iddqd.specs.declared.index_remap.IndexRemap.{IndexRemap}
use Rattle.iddqd.proofs.StoreLemmas.{contains_head, live_within}
use Rattle.iddqd.proofs.CompactionLemmas.{rank_one_to_one, CanRemap-live}

module _ {T : Type 0} where
  -- an index that has no item isn't live
  pub none_not_live : (s : Store T) (ix : ℕ) → get s ix ≡ None → IsSome (get s ix) → ⊥
  none_not_live s ix none live = cc

  -- the item of a live index
  pub item_at : (s : Store T) (ix : ℕ) → IsSome (get s ix) → (item : T) × (get s ix ≡ Some item)
  item_at s ix live =
      elim (get s ix) as (λ o. get s ix ≡ o → IsSome o → (item : T) × (get s ix ≡ Some item)) [
        | Some item ↦ λ is _. (item, is)
        | None ↦ λ is live. absurd (cc)
      ] refl live

  pub live_at : (s : Store T) (ix : ℕ) (item : T) → get s ix ≡ Some item → IsSome (get s ix)
  live_at s ix item is = rw is refl

  pub get-removed_at : (s : Store T) (ix : ℕ) (item : T) → get s ix ≡ Some item → get (removed s ix) ix ≡ None
  get-removed_at s ix item live = get_or-set_same s.items ix None None (live_within s.items ix (live_at s ix item live))

  pub get-removed_other : (s : Store T) (ix j : ℕ) → j ≢ ix → get (removed s ix) j ≡ get s j
  get-removed_other s ix j apart = get_or-set_other s.items ix j None None apart

  -- the next index has no item
  pub next_vacant : (s : Store T) → IsValid s → get s (next_index s) ≡ None
  next_vacant s valid = by_free s.items s.free valid
    where
      by_free :
          (items : List (Option T)) (free : List ℕ)
          → IsValid (record { items = items; free = free; limit = s.limit })
          → get_or items (next_index (record { items = items; free = free; limit = s.limit })) None ≡ None
      by_free items [] valid = get_or_past items (length items) None (omega arith)
      by_free items (ix ∷ rest) valid = ((valid.vacant ix).0 (contains_head ix rest)).1

  pub get-inserted_at : (s : Store T) (item : T) → IsValid s → get (inserted s item) (next_index s) ≡ Some item
  get-inserted_at s item valid = by_free s.items s.free valid
    where
      by_free :
          (items : List (Option T)) (free : List ℕ)
          → IsValid (record { items = items; free = free; limit = s.limit })
          → get (inserted (record { items = items; free = free; limit = s.limit }) item)
          (next_index (record { items = items; free = free; limit = s.limit })) ≡ Some item
      by_free items [] valid = get_or_push items (Some item) None (length items) refl
      by_free items (ix ∷ rest) valid = get_or-set_same items ix (Some item) None ((valid.vacant ix).0 (contains_head ix rest)).0

  pub get-inserted_other : (s : Store T) (item : T) (j : ℕ) → j ≢ next_index s → get (inserted s item) j ≡ get s j
  get-inserted_other s item j apart = by_free s.items s.free apart
    where
      by_free :
          (items : List (Option T)) (free : List ℕ)
          → j ≢ next_index (record { items = items; free = free; limit = s.limit })
          → get (inserted (record { items = items; free = free; limit = s.limit }) item) j ≡ get_or items j None
      by_free items [] apart =
          elim (cases_lt j (length items)) [
            | inl low ↦ get_or_append_left items (Some item ∷ []) None j low
            | inr high ↦
                let above : length items < j = omega (arith, high, apart) in
                get_or_past (items ++ Some item ∷ []) j None (omega (arith, above, length_push items (Some item))) ∙ sym (get_or_past items j None (omega arith))
          ]
      by_free items (ix ∷ rest) apart = get_or-set_other items ix j (Some item) None apart

  -- where nothing is live, no index has an item
  pub none_live : (s : Store T) (ix : ℕ) (item : T) → live_count s ≡ 0 → get s ix ≡ Some item → ⊥
  none_live s ix item none live =
      let inside = live_within s.items ix (live_at s ix item live) in
      let at_least = rw live at (get_or-le-sum_by (λ o. cond (is_some o) 1 0) s.items ix None inside) in
      omega (arith, at_least, none)

-- what a store's remap says of a live index
module _ {T : Type 0} (s : Store T) (remap : IndexRemap) (valid : IsValid s) (is : IsRemapOf s remap) where
  pub renames : (ix : ℕ) → IsSome (get s ix) → CanRemap remap ix × (remapped remap ix ≡ rank s ix)
  renames ix live =
      let (item, here) = item_at s ix live in
      CanRemap-live s remap valid is ix item here

  pub one_name : (i j : ℕ) → IsSome (get s i) → IsSome (get s j) → remapped remap i ≡ remapped remap j → i ≡ j
  one_name i j p q same = rank_one_to_one s i j p q (sym (renames i p).1 ∙ same ∙ (renames j q).1)
