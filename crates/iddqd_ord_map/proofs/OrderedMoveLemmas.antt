-- For callers: an index is put where its item's key belongs: a live one that is given another item, or the next one.
use Rattle.std.proofs.Common.{◌≡◌, ◌≢◌, ◌∙◌, ◌<◌, ◌≤◌, inl, inr, ◌↔◌, ℕ, Bool, true, false, List, length, get_or, insert, Option, Some, None, option_map, refl, sym, ap, subst, Ordering}
use Rattle.std.specs.Fn.{Mut}
use Rattle.std.specs.List.{Contains}
use Rattle.std.specs.Option.{option_cmp}
use Rattle.std.specs.Ordering.{eq_by_cmp}
use Rattle.std.specs.Cmp.{IsTotalOrder, eq_by_cmp_equiv}
use Rattle.std.specs.Cmp.Lexicographic.{options_total}
use Rattle.std.proofs.lemmas.Bool.{cases_eq}
use Rattle.std.proofs.lemmas.List.Elements.{Contains-get_or}
use Rattle.std.proofs.lemmas.List.Kept.{IsStrictlySortedBy-filter}
use Rattle.iddqd.specs.Store.{Store, IsValid, get, next_index, inserted, rebound}
use Rattle.iddqd.proofs.StoreLemmas.{get-rebound_at, get-rebound_other}
use Rattle.iddqd.proofs.LiveLemmas.{live_at, none_not_live, next_vacant, get-inserted_at, get-inserted_other}
use Rattle.iddqd_order.specs.KeyOrder.{key_then_index, ComparesKeys}
use Rattle.iddqd_order.specs.MapBTreeTable.{without}
use Rattle.iddqd_order.specs.PreparedBTreeMove.{PutsIn}
use Rattle.iddqd_order.specs.Search.{IsPlace, IsRising, IsSteady, with_ties}
use Rattle.iddqd_order.specs.declared.btree_table.asking.Asking.{Asking}
use Rattle.iddqd_order.proofs.IndexListLemmas.{IsDistinct-insert, IsDistinct-filter}
use Rattle.iddqd_order.proofs.KeyOrderLemmas.{key_then_index-total, with_ties-key, IsRising-from_sorted, IsStrictlySortedBy-insert}
use Rattle.iddqd_order.proofs.MemberLemmas.{contains-inserted_at, contains-inserted_other, contains-inserted_cases, contains-without, contains-from_without}
use Rattle.iddqd_keys.specs.Scan.{IsLive, IsHit, HasNoHit}
use Rattle.iddqd_by_order.specs.Ordered.{IsInPlace, IsSortedScan, compared, key_at}
use Rattle.iddqd_keys.specs.AnyTable.{HasDistinctKeys}
use Rattle.iddqd_ord_map.specs.ByOrderMulti.{item_answer}
use Rattle.iddqd_ord_map.specs.OrderedIndexing.{has_key}
use Rattle.iddqd_by_order.proofs.OrderedHoldsLemmas.{Holds-inserted}
use Rattle.iddqd_keys.proofs.KeyWalkLemmas.{IsInPlace-alike}
use Rattle.iddqd_keys.proofs.ScanLemmas.{rebound_cases, live_rebound}

-- an index that hits is another one than an index whose item doesn't pass
pub other_hit :
    {T : Type 0} (s : Store T) (test : T → Bool) (ix at : ℕ) (was : T)
    → get s ix ≡ Some was
    → test was ≡ false
    → IsHit s test at
    → at ≢ ix
other_hit s test ix at was live differs (x, is, passes) same =
    let one : Some was ≡ Some x = sym live ∙ ap (get s) (sym same) ∙ is in
    cc

-- A list that is in place stays so where an index is put into it by its key, ties by index: `there` has its item, and
-- the items of s at the others.
module _
    {T K : Type 0} (key_of : T → K) (compare : K → K → Ordering) (total : IsTotalOrder compare) (s there : Store T)
    (others : List ℕ) (ix : ℕ) (item : T) (same : (j : ℕ) → Contains others j → get there j ≡ get s j)
    (own : get there ix ≡ Some item) (placed : IsInPlace key_of compare s others)
  where
    own_key : key_at key_of there ix ≡ Some (key_of item)
    own_key = ap (λ o. option_map key_of o) own

    placed_there : IsInPlace key_of compare there others
    placed_there = IsInPlace-alike key_of compare total s there others same placed

    as_optional_key : (k : Option K) → compared (compare (key_of item)) k ≡ option_cmp compare (Some (key_of item)) k
    as_optional_key None = refl
    as_optional_key (Some k) = refl

    compares :
        ComparesKeys (option_cmp compare (key_at key_of there ix)) (key_at key_of there)
        (item_answer key_of compare s item) others
    compares k d within =
        let j = get_or others k d in
        let other : key_at key_of there j ≡ key_at key_of s j = ap (λ o. option_map key_of o) (same j (Contains-get_or others k d within)) in
        as_optional_key (key_at key_of s j)
        ∙ ap (λ a. option_cmp compare a (key_at key_of s j)) (sym own_key) ∙ ap (λ b. option_cmp compare (key_at key_of there ix) b) (sym other)

    totals : IsTotalOrder (key_then_index (option_cmp compare) (key_at key_of there))
    totals = key_then_index-total (options_total total) (key_at key_of there)

    ties :
        (k : ℕ)
        → k < length others
        → with_ties (Some ix) (item_answer key_of compare s item)
        (get_or others k 0) ≡ key_then_index (option_cmp compare) (key_at key_of there) ix (get_or others k 0)
    ties = with_ties-key (options_total total) (key_at key_of there) ix (item_answer key_of compare s item) others compares

    pub IsRising-own : IsRising (with_ties (Some ix) (item_answer key_of compare s item)) others
    IsRising-own = IsRising-from_sorted totals others placed_there ix (with_ties (Some ix) (item_answer key_of compare s item)) ties

    pub IsInPlace-put_in :
        (place : ℕ)
        → IsPlace (with_ties (Some ix) (item_answer key_of compare s item)) others place
        → IsInPlace key_of compare there (insert others place ix)
    IsInPlace-put_in place is_place = IsStrictlySortedBy-insert totals others placed_there ix (with_ties (Some ix) (item_answer key_of compare s item)) ties place is_place

-- the next index, which is put where its item's key belongs
module _
    {T K : Type 0} (key_of : T → K) (compare : K → K → Ordering) (total : IsTotalOrder compare) (s : Store T)
    (order : List ℕ) (o : IsSortedScan key_of compare s order) (item : T) (valid : IsValid s)
  where
    get_before : (j : ℕ) → Contains order j → get (inserted s item) j ≡ get s j
    get_before j here =
        get-inserted_other s item j (λ same. none_not_live s (next_index s) (next_vacant s valid) (subst (IsLive s) same ((o.holds.each j).0 here)))

    pub IsRising-next : IsRising (with_ties (Some (next_index s)) (item_answer key_of compare s item)) order
    IsRising-next = IsRising-own key_of compare total s (inserted s item) order (next_index s) item get_before (get-inserted_at s item valid) o.placed

    pub IsSortedScan-inserted :
        (place : ℕ) (new : List ℕ)
        → place ≤ length order
        → IsPlace (with_ties (Some (next_index s)) (item_answer key_of compare s item)) order place
        → new ≡ insert order place (next_index s)
        → IsSortedScan key_of compare (inserted s item) new
    IsSortedScan-inserted place new within is_place is = record {
      holds = Holds-inserted s order o.holds item valid new (record { place = place; within = within; added = is });
      placed = rw is (IsInPlace-put_in key_of compare total s (inserted s item) order (next_index s) item get_before (get-inserted_at s item valid) o.placed place is_place);
    }

-- a live index, which is given an item and put where that one's key belongs
module _
    {T K : Type 0} (key_of : T → K) (compare : K → K → Ordering) (total : IsTotalOrder compare) (s : Store T)
    (order : List ℕ) (o : IsSortedScan key_of compare s order) (ix : ℕ) (item was : T) (live : get s ix ≡ Some was)
  where
    abbrev there : Store T
    there = rebound s ix item

    abbrev others : List ℕ
    others = without order ix

    get_other : (j : ℕ) → Contains others j → get there j ≡ get s j
    get_other j here = get-rebound_other s ix j item (contains-from_without order ix j here).1

    placed_beside : IsInPlace key_of compare s others
    placed_beside = IsStrictlySortedBy-filter _ _ order o.placed

    pub IsRising-new : IsRising (with_ties (Some ix) (item_answer key_of compare s item)) others
    IsRising-new = IsRising-own key_of compare total s there others ix item get_other (get-rebound_at s ix item was live) placed_beside

    held_at : (place j : ℕ) → Contains (insert others place ix) j ↔ IsLive there j
    held_at place j = (
      λ here. elim (contains-inserted_cases others place ix j here) [
        | inl same ↦ subst (IsLive there) (sym same) (live_at there ix item (get-rebound_at s ix item was live))
        | inr stood ↦ rw (live_rebound s ix item was live j) ((o.holds.each j).0 (contains-from_without order ix j stood).0)
      ],
      λ is. elim (cases_eq j ix) [
        | inl same ↦ subst (Contains (insert others place ix)) (sym same) (contains-inserted_at others place ix)
        | inr other ↦
            contains-inserted_other others place ix j (contains-without order ix j ((o.holds.each j).1 (rw (live_rebound s ix item was live j) at is)) other)
      ],
    )

    absent : Contains others ix → ⊥
    absent here = (contains-from_without order ix ix here).1 refl

    pub IsSortedScan-moved :
        (place : ℕ) (new : List ℕ)
        → IsPlace (with_ties (Some ix) (item_answer key_of compare s item)) others place
        → new ≡ insert others place ix
        → IsSortedScan key_of compare there new
    IsSortedScan-moved place new is_place is =
        rw is (record {
          holds = record { each = held_at place; once = IsDistinct-insert others place ix absent (IsDistinct-filter _ order o.holds.once) };
          placed = IsInPlace-put_in key_of compare total s there others ix item get_other (get-rebound_at s ix item was live) placed_beside place is_place;
        })

    -- the index was put where a search for the new key led
    pub IsSortedScan-put_in :
        {F R : Type 0} (g : Mut F (ℕ × Unit {0}) R) (read : R → Ordering) (xs : List ℕ) (i : ℕ)
        (asking : Asking F) (new left : List ℕ)
        → xs ≡ order
        → i ≡ ix
        → IsSteady g others (Some ix) read (item_answer key_of compare s item) asking
        → PutsIn g read (without xs i) i asking new
        → left ≡ new
        → IsSortedScan key_of compare there left
    IsSortedScan-put_in g read xs i asking new left all own steady puts is =
        let put : PutsIn g read others ix asking new = subst (λ j. PutsIn g read (without order j) j asking new) own (subst (λ l. PutsIn g read (without l i) i asking new) all puts) in
        IsSortedScan-moved put.place left (put.belongs (item_answer key_of compare s item) (record { steady = steady; rising = IsRising-new })) (is ∙ put.inserted)

    -- where no item had the new key, still no two items share one
    pub HasDistinctKeys-moved :
        HasDistinctKeys key_of (eq_by_cmp compare) s
        → HasNoHit s (has_key key_of compare (key_of item))
        → HasDistinctKeys key_of (eq_by_cmp compare) there
    HasDistinctKeys-moved apart none i j x y p q same =
        let symm = (eq_by_cmp_equiv total).symm in
        elim (rebound_cases s ix item was live i x p) [
          | inl a ↦ elim (rebound_cases s ix item was live j y q) [
            | inl b ↦ a.0 ∙ sym b.0
            | inr b ↦ absurd (none j (y, b.1, subst (λ z. eq_by_cmp compare (key_of z) (key_of y) ≡ true) (sym a.1) same))
          ]
          | inr a ↦ elim (rebound_cases s ix item was live j y q) [
            | inl b ↦ absurd (none i (x, a.1, symm (key_of item) (key_of x) ∙ subst (λ z. eq_by_cmp compare (key_of x) (key_of z) ≡ true) (sym b.1) same))
            | inr b ↦ apart i j x y a.1 b.1 same
          ]
        ]
