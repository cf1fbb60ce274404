-- For callers: each step of a store and of a list keeps an ordered table in place, and exact.
use Rattle.std.proofs.Common.{◌≡◌, ◌∙◌, ◌<◌, ℕ, Bool, true, List, [], ◌∷◌, length, map, get_or, insert, inl, inr, Option, Some, None, option_map, refl, sym, ap, subst, Ordering}
use Rattle.std.specs.List.{Contains}
use Rattle.std.specs.List.Sorted.{IsStrictlySortedBy}
use Rattle.std.specs.Option.{option_cmp}
use Rattle.std.specs.Ordering.{nat_cmp, ordering_then, eq_by_cmp}
use Rattle.std.specs.Cmp.{IsTotalOrder, Equal-is, eq_by_cmp_equiv}
use Rattle.std.specs.Cmp.Lexicographic.{options_total}
use Rattle.std.proofs.lemmas.Bool.{cases_eq, cases_lt}
use Rattle.std.proofs.lemmas.Cmp.{tied_itself}
use Rattle.std.proofs.lemmas.List.Elements.{Contains-get_or}
use Rattle.std.proofs.lemmas.List.Kept.{IsStrictlySortedBy-filter}
use Rattle.iddqd.specs.Store.{Store, IsValid, empty_within, cleared, live_count, get, next_index, inserted, removed, rebound}
use Rattle.iddqd.specs.Compaction.{compacted, rank}
use Rattle.iddqd.proofs.StoreLemmas.{contains_head, get-rebound_at, get-rebound_other}
use Rattle.iddqd.proofs.LiveLemmas.{none_live, none_not_live, item_at, next_vacant, get-removed_other, get-inserted_at, get-inserted_other}
use Rattle.iddqd.proofs.CompactionLemmas.{get-compacted, rank_rises}
use Rattle.iddqd_order.specs.Entry.{vacant_table, vacant_place, PreparesFill}
use Rattle.iddqd_order.specs.KeyOrder.{key_then_index, ComparesKeys}
use Rattle.iddqd_order.specs.MapBTreeTable.{order_of, without}
use Rattle.iddqd_order.specs.PreparedBTreeInsert.{Prepared, table_of, index_of, place_of}
use Rattle.iddqd_order.specs.Search.{IsPlace}
use Rattle.iddqd_order.specs.declared.btree_table.entry.VacantEntry.{VacantEntry}
use Rattle.iddqd_order.proofs.KeyOrderLemmas.{key_then_index-total, IsStrictlySortedBy-insert, IsInKeyOrder-renamed}
use Rattle.iddqd_order.proofs.MemberLemmas.{contains-from_without}
use Rattle.iddqd_keys.specs.Scan.{IsLive, passes_by}
use Rattle.iddqd_keys.specs.AnyTable.{ChangesAt}
use Rattle.iddqd_by_order.specs.Ordered.{Holds, AddsInPlace, IsInPlace, IsInSync, IsVacantAt, Keeps, LooksUp, compared, key_at}
use Rattle.iddqd_keys.proofs.KeyWalkLemmas.{IsInPlace-tied, IsInPlace-alike}
use Rattle.iddqd_keys.proofs.ScanLemmas.{passes_unless, AreApart-bare, AreApart-removed, AreApart-inserted, AreApart-compacted, AreApart-rebound}

-- a list without members
no_members : (xs : List ℕ) → ((x : ℕ) → Contains xs x → ⊥) → xs ≡ []
no_members [] none = refl
no_members (x ∷ xs) none = absurd (none x (contains_head x xs))

sorted_nil : (c : ℕ → ℕ → _) → IsStrictlySortedBy c []
unfolding IsStrictlySortedBy
sorted_nil c = tt

module _ {T K : Type 0} (key_of : T → K) (compare : K → K → Ordering) where
  IsInPlace-nil : (s : Store T) → IsInPlace key_of compare s []
  IsInPlace-nil s = sorted_nil _

  IsInSync-nil : (s : Store T) → live_count s ≡ 0 → IsInSync key_of compare s []
  IsInSync-nil s none = record { placed = IsInPlace-nil s; apart = AreApart-bare _ s none }

  pub IsInSync-empty : (limit : ℕ) → IsInSync key_of compare (empty_within limit) []
  IsInSync-empty limit = IsInSync-nil (empty_within limit) refl

  pub Keeps-cleared : (s : Store T) (order : List ℕ) → Keeps key_of compare s order (cleared s) []
  Keeps-cleared s order =
      let o = IsInSync-nil (cleared s) refl in
      record { placed = λ _. o.placed; in_sync = λ _. o }

  -- where nothing is live
  pub IsInSync-bare :
      (s : Store T) (order : List ℕ)
      → Holds s order
      → live_count s ≡ 0
      → IsInSync key_of compare s order
  IsInSync-bare s order holds none =
      let empty : order ≡ [] = no_members order (λ ix here. let (item, is) = item_at s ix ((holds.each ix).0 here) in none_live s ix item none is) in
      subst (IsInSync key_of compare s) (sym empty) (IsInSync-nil s none)

module _ {T K : Type 0} (key_of : T → K) (compare : K → K → Ordering) (total : IsTotalOrder compare) where
  abbrev equal : T → T → Bool
  equal item = passes_by key_of (eq_by_cmp compare (key_of item))

  totals : (s : Store T) → IsTotalOrder (key_then_index (option_cmp compare) (key_at key_of s))
  totals s = key_then_index-total (options_total total) (key_at key_of s)

  module _ (s : Store T) (order : List ℕ) where
    pub IsInPlace-removed :
        (ix : ℕ)
        → IsInPlace key_of compare s order
        → IsInPlace key_of compare (removed s ix) (without order ix)
    IsInPlace-removed ix placed =
        IsInPlace-alike key_of compare total s (removed s ix) (without order ix)
        (λ j here. get-removed_other s ix j (contains-from_without order ix j here).1)
        (IsStrictlySortedBy-filter _ _ order placed)

    pub Keeps-removed :
        (ix : ℕ) (item : T)
        → get s ix ≡ Some item
        → Keeps key_of compare s order (removed s ix) (without order ix)
    Keeps-removed ix item live = record {
      placed = IsInPlace-removed ix;
      in_sync = λ o. record { placed = IsInPlace-removed ix o.placed; apart = AreApart-removed _ s ix item live o.apart };
    }

    -- an item whose key a look-up missed
    pub Keeps-inserted :
        (item : T) (new : List ℕ)
        → IsValid s
        → LooksUp key_of compare s order (compare (key_of item)) None
        → AddsInPlace key_of compare s item order new
        → Keeps key_of compare s order (inserted s item) new
    Keeps-inserted item new valid missed adds = record {
      placed = adds.placed;
      in_sync = λ o. record {
        placed = adds.placed o.placed;
        apart = AreApart-inserted _ s item valid (λ x y. (eq_by_cmp_equiv total).symm (key_of x) (key_of y)) (missed.as_scan o) o.apart;
      };
    }

    IsInPlace-compacted :
        Holds s order
        → IsInPlace key_of compare s order
        → IsInPlace key_of compare (compacted s) (map (rank s) order)
    IsInPlace-compacted holds placed =
        IsInKeyOrder-renamed (options_total total) (key_at key_of s) (key_at key_of (compacted s)) (rank s) order
        (λ i here.
        let (item, is) = item_at s i ((holds.each i).0 here) in
        ap (λ o. option_map key_of o) (get-compacted s i item is ∙ sym is))
        (λ i j here there less. rank_rises s i j less ((holds.each i).0 here))
        placed

    pub Keeps-compacted : Holds s order → Keeps key_of compare s order (compacted s) (map (rank s) order)
    Keeps-compacted holds = record {
      placed = IsInPlace-compacted holds;
      in_sync = λ o. record { placed = IsInPlace-compacted holds o.placed; apart = AreApart-compacted _ s o.apart };
    }

    -- a live index that is given an item with the same key
    module _ (ix : ℕ) (item was : T) (live : get s ix ≡ Some was) where
      IsInPlace-rebound :
          equal item was ≡ true
          → IsInPlace key_of compare s order
          → IsInPlace key_of compare (rebound s ix item) order
      IsInPlace-rebound kept = IsInPlace-tied key_of compare total s (rebound s ix item) order (λ j _.
          elim (cases_eq j ix) [
            | inl same ↦ rw (same, key_at, get-rebound_at s ix item was live, live) ((Equal-is _).0 kept)
            | inr other ↦ rw (key_at, get-rebound_other s ix j item other) (tied_itself (options_total total) (key_at key_of s j))
          ])

      pub Keeps-rebound :
          (ChangesAt key_of (eq_by_cmp compare) s ix item → ⊥)
          → Keeps key_of compare s order (rebound s ix item) order
      Keeps-rebound same =
          let e = eq_by_cmp_equiv total in
          let kept = passes_unless s (equal item) ix was live same in
          record {
            placed = IsInPlace-rebound kept;
            in_sync = λ o. record {
              placed = IsInPlace-rebound kept o.placed;
              apart = AreApart-rebound s ix item was live _ (λ x y. e.symm (key_of x) (key_of y)) (λ x y z p q. e.congr (key_of x) (key_of y) (key_of z) p ∙ q) kept o.apart;
            };
          }

  -- an item that is stored at the next index, where a query that stands for its key found a vacant place
  module _
      (s : Store T) (item : T) (order : List ℕ) (comparing : K → Ordering) (valid : IsValid s) (holds : Holds s order)
      (as_key : (k : K) → comparing k ≡ compare (key_of item) k)
    where
      abbrev after : Store T
      after = inserted s item

      abbrev next : ℕ
      next = next_index s

      abbrev answer : ℕ → Ordering
      answer ix = compared comparing (key_at key_of s ix)

      others : (j : ℕ) → Contains order j → get after j ≡ get s j
      others j here =
          get-inserted_other s item j (λ same. none_not_live s next (next_vacant s valid) (subst (IsLive s) same ((holds.each j).0 here)))

      as_optional_key : (o : Option K) → compared comparing o ≡ option_cmp compare (Some (key_of item)) o
      as_optional_key None = refl
      as_optional_key (Some k) = as_key k

      compares : ComparesKeys (option_cmp compare (key_at key_of after next)) (key_at key_of after) answer order
      compares k d within =
          let j = get_or order k d in
          let own : key_at key_of after next ≡ Some (key_of item) = ap (λ o. option_map key_of o) (get-inserted_at s item valid) in
          let other : key_at key_of after j ≡ key_at key_of s j = ap (λ o. option_map key_of o) (others j (Contains-get_or order k d within)) in
          as_optional_key (key_at key_of s j)
          ∙ ap (λ a. option_cmp compare a (key_at key_of s j)) (sym own) ∙ ap (λ b. option_cmp compare (key_at key_of after next) b) (sym other)

      -- beside its place no index ties with the new one
      untied :
          (place : ℕ)
          → IsPlace answer order place
          → (k : ℕ)
          → k < length order
          → answer (get_or order k 0)
          ≡ key_then_index (option_cmp compare) (key_at key_of after) next (get_or order k 0)
      untied place is_place k within =
          let tie = nat_cmp next (get_or order k 0) in
          let same = ap (λ r. ordering_then r tie) (compares k 0 within) in
          elim (cases_lt k place) [
            | inl before ↦ let greater = is_place.greater_before k before in greater ∙ ap (λ r. ordering_then r tie) (sym greater) ∙ same
            | inr from ↦ let less = is_place.less_from k from within in less ∙ ap (λ r. ordering_then r tie) (sym less) ∙ same
          ]

      IsInPlace-inserted :
          (place : ℕ)
          → IsPlace answer order place
          → IsInPlace key_of compare s order
          → IsInPlace key_of compare after (insert order place next)
      IsInPlace-inserted place is_place placed =
          IsStrictlySortedBy-insert (totals after) order (IsInPlace-alike key_of compare total s after order others placed) next answer (untied place is_place) place is_place

      -- the index was put into the list by an insert that a vacant entry prepared
      pub AddsInPlace-prepared :
          (vacant : VacantEntry) (prepared : Prepared) (ix : ℕ) (new : List ℕ)
          → order_of (vacant_table vacant).now ≡ order
          → IsVacantAt key_of compare s order comparing (vacant_place vacant)
          → PreparesFill vacant ix prepared
          → ix ≡ next_index s
          → new ≡ insert (order_of (table_of prepared).now) (place_of prepared) (index_of prepared)
          → AddsInPlace key_of compare s item order new
      AddsInPlace-prepared vacant prepared ix new table room fills same_index is =
          let added : new ≡ insert order (vacant_place vacant) next = rw (← same_index, ← fills.index, ← fills.place, ← table, ← fills.table) is in
          record {
            adds = record { place = vacant_place vacant; within = room.within; added = added };
            placed = λ placed. rw added (IsInPlace-inserted (vacant_place vacant) (room.is_place placed) placed);
          }

      -- and by an insert at the vacant place
      pub AddsInPlace-placed :
          (place : ℕ) (new : List ℕ)
          → IsVacantAt key_of compare s order comparing place
          → new ≡ insert order place (next_index s)
          → AddsInPlace key_of compare s item order new
      AddsInPlace-placed place new room is = record {
        adds = record { place = place; within = room.within; added = is };
        placed = λ placed. rw is (IsInPlace-inserted place (room.is_place placed) placed);
      }
