-- The items of a store at listed indexes, and the order of their keys.
use Rattle.std.proofs.Common.{◌≡◌, ◌∙◌, ◌<◌, inl, inr, ℕ, zero, suc, true, List, [], ◌∷◌, length, map, get_or, slice_get, Some, None, refl, sym, ap, subst, Ordering, arith}
use Rattle.std.specs.List.{Contains, cons_option}
use Rattle.std.specs.Option.{option_cmp, option_map}
use Rattle.std.specs.Ordering.{nat_cmp, ordering_then, is_eq, eq_by_cmp}
use Rattle.std.specs.Cmp.{nat_cmp_total}
use Rattle.std.specs.declared.cmp.Ordering.TheVariants.{Less, Equal, Greater}
use Rattle.std.proofs.lemmas.Cmp.{tied_itself}
use Rattle.std.proofs.lemmas.Map.Keys.{Less-from_sorted}
use Rattle.iddqd.specs.Store.{Store, get}
use Rattle.iddqd.proofs.LiveLemmas.{item_at, live_at}
use Rattle.iddqd.proofs.StoreLemmas.{contains_head, contains_tail, contains_cases, contains_none}
use Rattle.iddqd_order.specs.KeyOrder.{key_then_index}
use Rattle.iddqd_keys.specs.AnyTable.{HasDistinctKeys}
use Rattle.iddqd_by_order.specs.Ordered.{AreLive, key_at}
use Rattle.iddqd_by_order.specs.OrderedWalk.{SortsWithin}
use Rattle.iddqd_ord_map.specs.OrderedIndexing.{Sorts}
use Rattle.iddqd_ord_map.specs.KeyOrder.{IsWalkWithin}
use Rattle.iddqd_keys.specs.KeyWalk.{index_with_item, pairs_at}
use Rattle.iddqd_keys.proofs.KeyWalkLemmas.{pairs_at-first}
use Rattle.iddqd_ord_map.specs.Pairs.{items_of_slots}

module _ {T : Type 0} (s : Store T) where
  listed :
      (xs : List ℕ) (ix : ℕ) (item : T)
      → Contains (pairs_at s xs) (ix, item)
      → Contains xs ix × (get s ix ≡ Some item)
  listed [] ix item here = absurd (contains_none (ix, item) here)
  listed (x ∷ xs) ix item here =
      elim (get s x) as (λ o. get s x ≡ o
      → Contains (cons_option (option_map (λ y. (x, y)) o) (pairs_at s xs)) (ix, item)
      → Contains (x ∷ xs) ix × (get s ix ≡ Some item)) [
        | Some y ↦ λ is found. elim (contains_cases (x, y) (ix, item) (pairs_at s xs) found) [
          | inl same ↦ (
            subst (Contains (x ∷ xs)) (ap (λ (p : ℕ × T). p.0) same) (contains_head x xs),
            ap (λ (p : ℕ × T). get s p.0) (sym same) ∙ is ∙ ap (λ (p : ℕ × T). Some p.1) same,
          )
          | inr there ↦ let later = listed xs ix item there in (contains_tail x ix xs later.0, later.1)
        ]
        | None ↦ λ is found. let later = listed xs ix item found in (contains_tail x ix xs later.0, later.1)
      ] refl here

  lists :
      (xs : List ℕ) (ix : ℕ) (item : T)
      → Contains xs ix
      → get s ix ≡ Some item
      → Contains (pairs_at s xs) (ix, item)
  lists [] ix item here is = absurd (contains_none ix here)
  lists (x ∷ xs) ix item here is = elim (contains_cases x ix xs here) [
    | inl same ↦ rw (same, is) (contains_head (ix, item) (pairs_at s xs))
    | inr there ↦
        let later = lists xs ix item there is in
        elim (index_with_item s x) as (λ o. Contains (cons_option o (pairs_at s xs)) (ix, item)) [
          | Some p ↦ contains_tail p (ix, item) (pairs_at s xs) later
          | None ↦ later
        ]
  ]

  -- a pair stands where its index does
  pub record StandsAt (xs : List ℕ) (i : ℕ) (pair : ℕ × T) : Type 0 where
    pub within : i < length xs
    pub index : get_or xs i 0 ≡ pair.0
    pub item : get s pair.0 ≡ Some pair.1

  place_of_pair :
      (xs : List ℕ)
      → AreLive s xs
      → (i : ℕ) (a : ℕ × T)
      → slice_get (pairs_at s xs) i ≡ Some a
      → StandsAt xs i a
  place_of_pair [] live i a found = absurd (cc)
  place_of_pair (x ∷ xs) live zero a found =
      let (item, is) = item_at s x (live x (contains_head x xs)) in
      let first : slice_get ((x, item) ∷ pairs_at s xs) 0 ≡ Some a =
      ap (λ l. slice_get l 0) (sym (pairs_at-first s (x ∷ xs) xs x item refl is)) ∙ found in
      let same : (x, item) ≡ a = cc in
      record {
        within = omega arith;
        index = ap (λ (p : ℕ × T). p.0) same;
        item = ap (λ (p : ℕ × T). get s p.0) (sym same) ∙ is ∙ ap (λ (p : ℕ × T). Some p.1) same;
      }
  place_of_pair (x ∷ xs) live (suc i) a found =
      let (item, is) = item_at s x (live x (contains_head x xs)) in
      let next : slice_get (pairs_at s xs) i ≡ Some a =
      ap (λ l. slice_get l (suc i)) (sym (pairs_at-first s (x ∷ xs) xs x item refl is)) ∙ found in
      let later = place_of_pair xs (λ j here. live j (contains_tail x j xs here)) i a next in
      record { within = omega (arith, later.within); index = later.index; item = later.item }

-- of two in order the keys differ, where the indexes do
keys_differ : (r t : Ordering) → ordering_then r t ≡ Less → (r ≡ Equal → t ≡ Equal) → r ≡ Less
keys_differ Less t less tied = refl
keys_differ Equal t less tied = let same = tied refl in cc
keys_differ Greater t less tied = cc

-- the items of pairs are those at their indexes
pub items_of_pairs :
    {T : Type 0} (s : Store T) (xs : List ℕ)
    → map (λ pair. pair.1) (pairs_at s xs) ≡ items_of_slots s.items xs
items_of_pairs s [] = refl
items_of_pairs s (x ∷ xs) =
    let rest = items_of_pairs s xs in
    elim (get s x) as (λ o. map (λ pair. pair.1) (cons_option (option_map (λ item. (x, item)) o) (pairs_at s xs))
    ≡ cons_option o (items_of_slots s.items xs)) [
      | Some item ↦ ap (λ l. item ∷ l) rest
      | None ↦ rest
    ]

module _ {T K : Type 0} (key_of : T → K) (compare : K → K → Ordering) (s : Store T) where
  -- all are within, where nothing is asked of a key
  pub SortsWithin-all : (order : List ℕ) → Sorts key_of compare s order → SortsWithin key_of compare (λ _. true) s order
  SortsWithin-all order o = record {
    each = λ ix. (
      λ here. let (item, is) = item_at s ix ((o.held.each ix).0 here) in (item, is, refl),
      λ (item, is, passes). (o.held.each ix).1 (live_at s ix item is),
    );
    placed = o.in_sync.placed;
  }

  module _ (within : K → _) (xs : List ℕ) (o : SortsWithin key_of compare within s xs) where
    pub AreLive-within : AreLive s xs
    AreLive-within ix here = let (item, is, passes) = (o.each ix).0 here in live_at s ix item is

    module _ (apart : HasDistinctKeys key_of (eq_by_cmp compare) s) where
      rises :
          (i j : ℕ) (a b : ℕ × T)
          → i < j
          → slice_get (pairs_at s xs) i ≡ Some a
          → slice_get (pairs_at s xs) j ≡ Some b
          → compare (key_of a.1) (key_of b.1) ≡ Less
      rises i j a b before at_i at_j =
          let p = place_of_pair s xs AreLive-within i a at_i in
          let q = place_of_pair s xs AreLive-within j b at_j in
          let less : key_then_index (option_cmp compare) (key_at key_of s) (get_or xs i 0) (get_or xs j 0) ≡ Less =
          Less-from_sorted _ xs i j 0 o.placed before q.within in
          keys_differ (compare (key_of a.1) (key_of b.1)) (nat_cmp a.0 b.0)
          (rw (p.index, q.index, p.item, q.item) at less)
          (λ equal.
          let same : a.0 ≡ b.0 = apart a.0 b.0 a.1 b.1 p.item q.item (ap is_eq equal) in
          subst (λ k. nat_cmp a.0 k ≡ Equal) same (tied_itself nat_cmp_total a.0))

      pub IsWalkWithin-sorted : IsWalkWithin key_of compare within s (pairs_at s xs)
      IsWalkWithin-sorted = record {
        live = λ ix item. (
          λ here.
              let (stored, is) = listed s xs ix item here in
              let (other, there, passes) = (o.each ix).0 stored in
              let same : Some other ≡ Some item = sym there ∙ is in
              let one : other ≡ item = cc in
              (is, subst (λ y. within (key_of y) ≡ true) one passes),
          λ (is, passes). lists s xs ix item ((o.each ix).1 (item, is, passes)) is,
        );
        rising = rises;
      }
