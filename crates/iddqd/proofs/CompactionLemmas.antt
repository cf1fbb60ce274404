-- For callers of `compact`: a compacted store is valid, and each live index becomes its rank.
use Rattle.std.proofs.Common.{◌≡◌, ◌≢◌, ◌+◌, ◌<◌, ◌≤◌, ℕ, zero, suc, cond, List, [], ◌∷◌, ◌++◌, map, length, take, get_or, Option, Some, None, is_some, IsSome, count_by, refl, sym, ap, ◌∙◌, inl, inr, arith, add-one, length-take}
use Rattle.std.specs.List.{IsDistinct, filter}
use Rattle.std.proofs.lemmas.Bool.{cases_lt}
use Rattle.std.proofs.lemmas.List.{length-map, get_or-map, map_push}
use Rattle.std.proofs.lemmas.List.Sums.{sum_by-cons, sum_by-take-le, count_by-le-length, count_by_more_yes, count_by_more_no, length-filter}
use Rattle.iddqd.proofs.StoreLemmas.{contains_none, live_within}
use Rattle.iddqd.specs.Store.{sentinel, Store, get, slot_count, live_count, IsValid}
use Rattle.iddqd.specs.Compaction.{CanRemap, remapped, numbers, rank, compacted, new_name, IsRemapOf}
use Rattle.iddqd.specs.declared.index_remap.IndexRemap.{IndexRemap}
use Rattle.iddqd.specs.declared.index_remap.IndexRemap.TheVariants.{Identity, Permuted}

-- one more number
pub numbers_more : (n : ℕ) → numbers (n + 1) ≡ numbers n ++ n ∷ []
numbers_more zero = refl
numbers_more (suc n) = ap numbers (add-one (suc n)) ∙ ap (λ l. 0 ∷ map suc l) (ap numbers (sym (add-one n)) ∙ numbers_more n) ∙ ap (λ l. 0 ∷ l) (map_push suc (numbers n) n)

pub length-numbers : (n : ℕ) → length (numbers n) ≡ n
length-numbers zero = refl
length-numbers (suc n) = ap suc (length-map (numbers n) suc ∙ length-numbers n)

pub get_or-numbers : (n ix d : ℕ) → ix < n → get_or (numbers n) ix d ≡ ix
get_or-numbers zero ix d within = absurd (omega arith)
get_or-numbers (suc n) zero d within = refl
get_or-numbers (suc n) (suc ix) d within =
    get_or-map suc (numbers n) ix d d (omega (arith, length-numbers n)) ∙ ap suc (get_or-numbers n ix d (omega arith))

module _ {T : Type 0} where
  -- how many items there are below an index
  abbrev below : List (Option T) → ℕ → ℕ
  below items ix = count_by is_some (take ix items)

  below-vacant : (items : List (Option T)) (ix : ℕ) → below (None ∷ items) (suc ix) ≡ below items ix
  below-vacant items ix = omega (arith, sum_by-cons (λ o. cond (is_some o) 1 0) None (take ix items))

  below-live : (items : List (Option T)) (ix : ℕ) (item : T) → below (Some item ∷ items) (suc ix) ≡ suc (below items ix)
  below-live items ix item = omega (arith, sum_by-cons (λ o. cond (is_some o) 1 0) (Some item) (take ix items))

  -- a live index has its item at the index's rank
  get-filter :
      (items : List (Option T)) (ix : ℕ) (item : T)
      → get_or items ix None ≡ Some item
      → get_or (filter is_some items) (below items ix) None ≡ Some item
  get-filter [] ix item live = absurd (cc)
  get-filter (None ∷ items) zero item live = absurd (cc)
  get-filter (Some x ∷ items) zero item live = live
  get-filter (None ∷ items) (suc ix) item live = rw (below-vacant items ix) (get-filter items ix item live)
  get-filter (Some x ∷ items) (suc ix) item live = rw (below-live items ix x) (get-filter items ix item live)

  -- each item of a compacted store comes from a live index of that rank
  live-filter :
      (items : List (Option T)) (j : ℕ) (item : T)
      → get_or (filter is_some items) j None ≡ Some item
      → (ix : ℕ) × (below items ix ≡ j) × (get_or items ix None ≡ Some item)
  live-filter [] j item live = absurd (cc)
  live-filter (None ∷ items) j item live =
      let from = live-filter items j item live in (suc from.0, below-vacant items from.0 ∙ from.1, from.2)
  live-filter (Some x ∷ items) zero item live = (0, refl, live)
  live-filter (Some x ∷ items) (suc j) item live =
      let from = live-filter items j item live in (suc from.0, below-live items from.0 x ∙ ap suc from.1, from.2)

  below-rises :
      (items : List (Option T)) (i j : ℕ)
      → i < j
      → IsSome (get_or items i None)
      → below items i < below items j
  below-rises [] i j less live = absurd (cc)
  below-rises (x ∷ items) i zero less live = absurd (omega arith)
  below-rises (None ∷ items) zero (suc j) less live = absurd (cc)
  below-rises (Some x ∷ items) zero (suc j) less live = omega (arith, below-live items j x)
  below-rises (None ∷ items) (suc i) (suc j) less live =
      omega (arith, below-vacant items i, below-vacant items j, below-rises items i j (omega arith) live)
  below-rises (Some x ∷ items) (suc i) (suc j) less live =
      omega (arith, below-live items i x, below-live items j x, below-rises items i j (omega arith) live)

  below-dense :
      (items : List (Option T)) (ix : ℕ)
      → count_by is_some items ≡ length items
      → ix ≤ length items
      → below items ix ≡ ix
  below-dense [] zero dense within = refl
  below-dense [] (suc ix) dense within = absurd (omega arith)
  below-dense (x ∷ items) zero dense within = refl
  below-dense (None ∷ items) (suc ix) dense within =
      absurd (omega (arith, dense, sum_by-cons (λ o. cond (is_some o) 1 0) None items, count_by-le-length is_some items))
  below-dense (Some x ∷ items) (suc ix) dense within =
      below-live items ix x ∙ ap suc (below-dense items ix (omega (arith, dense, sum_by-cons (λ o. cond (is_some o) 1 0) (Some x) items)) (omega arith))

  filter-dense : (items : List (Option T)) → count_by is_some items ≡ length items → filter is_some items ≡ items
  filter-dense [] dense = refl
  filter-dense (None ∷ items) dense =
      absurd (omega (arith, dense, sum_by-cons (λ o. cond (is_some o) 1 0) None items, count_by-le-length is_some items))
  filter-dense (Some x ∷ items) dense =
      ap (λ l. Some x ∷ l) (filter-dense items (omega (arith, dense, sum_by-cons (λ o. cond (is_some o) 1 0) (Some x) items)))

  -- what is kept are items
  get-filter_none :
      (items : List (Option T)) (ix : ℕ)
      → ix < length (filter is_some items)
      → get_or (filter is_some items) ix None ≡ None
      → ⊥
  get-filter_none [] ix within none = omega arith
  get-filter_none (None ∷ items) ix within none = get-filter_none items ix within none
  get-filter_none (Some x ∷ items) zero within none = cc
  get-filter_none (Some x ∷ items) (suc ix) within none = get-filter_none items ix (omega arith) none

  pub count-filter : (items : List (Option T)) → count_by is_some (filter is_some items) ≡ length (filter is_some items)
  count-filter [] = refl
  count-filter (None ∷ items) = count-filter items
  count-filter (Some x ∷ items) = omega (arith, sum_by-cons (λ o. cond (is_some o) 1 0) (Some x) (filter is_some items), count-filter items)

  -- a live index gives its item at its rank
  pub get-compacted :
      (s : Store T) (ix : ℕ) (item : T)
      → get s ix ≡ Some item
      → get (compacted s) (rank s ix) ≡ Some item
  get-compacted s ix item live = get-filter s.items ix item live

  -- what a compacted store gives stood at a live index of that rank
  pub live-compacted :
      (s : Store T) (j : ℕ) (item : T)
      → get (compacted s) j ≡ Some item
      → (ix : ℕ) × (rank s ix ≡ j) × (get s ix ≡ Some item)
  live-compacted s j item live = live-filter s.items j item live

  pub rank_rises : (s : Store T) (i j : ℕ) → i < j → IsSome (get s i) → rank s i < rank s j
  rank_rises s i j less live = below-rises s.items i j less live

  -- two live indexes with one rank are one
  pub rank_one_to_one : (s : Store T) (i j : ℕ) → IsSome (get s i) → IsSome (get s j) → rank s i ≡ rank s j → i ≡ j
  rank_one_to_one s i j live other same =
      elim (cases_lt i j) [
        | inl less ↦ absurd (omega (arith, same, rank_rises s i j less live))
        | inr least ↦ elim (cases_lt j i) [
          | inl less ↦ absurd (omega (arith, same, rank_rises s j i less other))
          | inr most ↦ omega arith
        ]
      ]

  -- the rank of a live index is one of the indexes after compaction
  pub rank_below : (s : Store T) (ix : ℕ) → IsSome (get s ix) → rank s ix < live_count s
  rank_below s ix live =
      let within = live_within s.items ix live in
      let whole = below-rises s.items ix (length s.items) within live in
      let most = sum_by-take-le (λ o. cond (is_some o) 1 0) s.items (length s.items) in
      omega (arith, whole, most)

  -- the rank of a live index isn't `SENTINEL`
  pub rank_assigned : (s : Store T) (ix : ℕ) → IsValid s → IsSome (get s ix) → rank s ix ≢ sentinel
  rank_assigned s ix valid live same = omega (arith, same, rank_below s ix live, valid.counted, valid.small, valid.named)

  all_live : (s : Store T) → IsValid s → s.free ≡ [] → live_count s ≡ slot_count s
  all_live s valid none = omega (arith, valid.counted, ap length none)

  -- where nothing is free, each index keeps its name and the store is as it was
  pub rank_same : (s : Store T) → IsValid s → s.free ≡ [] → (ix : ℕ) (item : T) → get s ix ≡ Some item → rank s ix ≡ ix
  rank_same s valid none ix item live =
      let within = live_within s.items ix (ap is_some live) in
      below-dense s.items ix (all_live s valid none) (omega (arith, within))

  pub compacted_same : (s : Store T) → IsValid s → s.free ≡ [] → compacted s ≡ s
  compacted_same s valid none =
      let kept = filter-dense s.items (all_live s valid none) in
      ap (λ l. record s { items = l; free = [] }) kept ∙ ap (λ f. record s { free = f }) (sym none)

  pub IsValid-compacted : (s : Store T) → IsValid s → IsValid (compacted s)
  unfolding IsDistinct
  IsValid-compacted s valid = record {
    distinct = tt;
    vacant = λ ix. (λ listed. absurd (contains_none ix listed), λ vacant. absurd (get-filter_none s.items ix vacant.0 vacant.1));
    counted = omega (arith, count-filter s.items);
    small = omega (arith, valid.small, length-filter is_some s.items, count_by-le-length is_some s.items);
    named = valid.named;
  }

  -- after compaction nothing is free, and the number of slots is that of the items
  pub slot_count-compacted : (s : Store T) → slot_count (compacted s) ≡ live_count s
  slot_count-compacted s = length-filter is_some s.items

  pub live_count-compacted : (s : Store T) → live_count (compacted s) ≡ live_count s
  live_count-compacted s = count-filter s.items ∙ length-filter is_some s.items

  -- the names of one more slot
  pub names_more :
      (s : Store T) (n : ℕ)
      → map (new_name s) (numbers (n + 1)) ≡ map (new_name s) (numbers n) ++ new_name s n ∷ []
  names_more s n = ap (map (new_name s)) (numbers_more n) ∙ map_push (new_name s) (numbers n) n

  pub rank_more-live : (s : Store T) (ix : ℕ) → ix < slot_count s → IsSome (get s ix) → rank s (ix + 1) ≡ rank s ix + 1
  rank_more-live s ix within live = count_by_more_yes is_some s.items ix None within live

  pub rank_more-vacant : (s : Store T) (ix : ℕ) → ix < slot_count s → get s ix ≡ None → rank s (ix + 1) ≡ rank s ix
  rank_more-vacant s ix within none = count_by_more_no is_some s.items ix None within (ap is_some none)

  pub new_name-vacant : (s : Store T) (ix : ℕ) → get s ix ≡ None → new_name s ix ≡ sentinel
  new_name-vacant s ix none = rw none refl

  -- a rank is no more than the index
  pub rank-le : (s : Store T) (ix : ℕ) → rank s ix ≤ ix
  rank-le s ix = omega (arith, count_by-le-length is_some (take ix s.items), length-take ix s.items)

  pub new_name-live : (s : Store T) (ix : ℕ) → IsSome (get s ix) → new_name s ix ≡ rank s ix
  new_name-live s ix live = rw live refl

  -- the list of new names has the new name of each slot
  pub get_or-names :
      (s : Store T) (ix d : ℕ)
      → ix < slot_count s
      → get_or (map (new_name s) (numbers (length s.items))) ix d ≡ new_name s ix
  get_or-names s ix d within =
      get_or-map (new_name s) (numbers (length s.items)) ix 0 d (omega (arith, length-numbers (length s.items)))
      ∙ ap (new_name s) (get_or-numbers (length s.items) ix 0 within)

  pub length-names : (s : Store T) → length (map (new_name s) (numbers (length s.items))) ≡ slot_count s
  length-names s = length-map (numbers (length s.items)) (new_name s) ∙ length-numbers (length s.items)

  -- a live index has a new name, its rank
  pub CanRemap-live :
      (s : Store T) (remap : IndexRemap)
      → IsValid s
      → IsRemapOf s remap
      → (ix : ℕ) (item : T)
      → get s ix ≡ Some item
      → CanRemap remap ix × (remapped remap ix ≡ rank s ix)
  CanRemap-live s Identity valid is ix item live = (tt, sym (rank_same s valid is ix item live))
  CanRemap-live s (Permuted names) valid is ix item live =
      let within = live_within s.items ix (ap is_some live) in
      let long : length names.items ≡ slot_count s = ap length is.1 ∙ length-names s in
      let named : get_or names.items ix 0 ≡ rank s ix = ap (λ l. get_or l ix 0) is.1 ∙ get_or-names s ix 0 within ∙ new_name-live s ix (ap is_some live) in
      ((omega (arith, within, long), λ same. rank_assigned s ix valid (ap is_some live) (sym named ∙ same)), named)

  -- and where there is a list of names, no other index has one
  pub live-CanRemap :
      (s : Store T) (remap : IndexRemap)
      → IsRemapOf s remap
      → s.free ≢ []
      → (ix : ℕ)
      → CanRemap remap ix
      → IsSome (get s ix)
  live-CanRemap s Identity is some ix can = absurd (some is)
  live-CanRemap s (Permuted names) is some ix can =
      let long : length names.items ≡ slot_count s = ap length is.1 ∙ length-names s in
      let named : get_or names.items ix 0 ≡ new_name s ix = ap (λ l. get_or l ix 0) is.1 ∙ get_or-names s ix 0 (omega (arith, long, can.0)) in
      by_case (get s ix) refl (λ same. can.1 (named ∙ same))
    where
      by_case : (o : Option T) → get s ix ≡ o → (new_name s ix ≡ sentinel → ⊥) → IsSome (get s ix)
      by_case None is_none differs = absurd (differs (rw is_none refl))
      by_case (Some item) is_item differs = ap is_some is_item

  -- after compaction nothing is free
  pub free-compacted : (s : Store T) → (compacted s).free ≡ []
  free-compacted s = refl

  -- a live index gives its item under its new name
  pub get-remapped :
      (s : Store T) (remap : IndexRemap)
      → IsValid s
      → IsRemapOf s remap
      → (ix : ℕ) (item : T)
      → get s ix ≡ Some item
      → get (compacted s) (remapped remap ix) ≡ Some item
  get-remapped s remap valid is ix item live =
      ap (get (compacted s)) (CanRemap-live s remap valid is ix item live).1 ∙ get-compacted s ix item live

  -- and each item stands under the new name of the live index that gave it
  pub live-remapped :
      (s : Store T) (remap : IndexRemap)
      → IsValid s
      → IsRemapOf s remap
      → (j : ℕ) (item : T)
      → get (compacted s) j ≡ Some item
      → (ix : ℕ) × (remapped remap ix ≡ j) × (get s ix ≡ Some item)
  live-remapped s remap valid is j item live =
      let from = live-compacted s j item live in
      (from.0, (CanRemap-live s remap valid is from.0 item from.2).1 ∙ from.1, from.2)
