-- All items of a store by index alone: an order in which no two items differ, and the list of their indexes.
use Rattle.std.proofs.Common.{◌≡◌, ◌∙◌, ◌+◌, ◌<◌, ◌≤◌, inl, inr, ℕ, Bool, true, List, [], ◌∷◌, map, Option, Some, None, refl, sym, ap, subst, Ordering, arith}
use Rattle.std.specs.Cmp.{IsTotalOrder, nat_cmp_is}
use Rattle.std.specs.List.{Contains}
use Rattle.std.specs.declared.cmp.Ordering.TheVariants.{Less, Equal}
use Rattle.iddqd.specs.LiveItems.{live_pairs, pairs_from}
use Rattle.iddqd.specs.Store.{Store, get}
use Rattle.iddqd.proofs.LiveItemLemmas.{IsWalkOf-live_pairs}
use Rattle.iddqd.proofs.StoreLemmas.{contains_head, contains_tail, contains_cases, contains_none}
use Rattle.iddqd_keys.specs.KeyWalk.{ComesBefore, IsInPlace, SortsWithin}
use Rattle.iddqd_keys.specs.Scan.{itself}
use Rattle.iddqd_keys.proofs.KeyWalkLemmas.{none_placed, put_in_front}
use Rattle.iddqd_keys.proofs.NextLemmas.{compares_live}
use Rattle.iddqd_keys.proofs.SortedLemmas.{sorted_once}
use Rattle.iddqd_map.specs.Groups.{AreHits}
use Rattle.iddqd_map.specs.Selection.{live_indexes}

-- the index of a pair is among the indexes
pub first_of : {T : Type 0} (pairs : List (ℕ × T)) (p : ℕ × T) → Contains pairs p → Contains (map (λ q. q.0) pairs) p.0
first_of [] p here = absurd (contains_none p here)
first_of (q ∷ pairs) p here = elim (contains_cases q p pairs here) [
  | inl is ↦ subst (Contains (q.0 ∷ map (λ r. r.0) pairs)) (ap (λ r. r.0) is) (contains_head q.0 (map (λ r. r.0) pairs))
  | inr there ↦ contains_tail q.0 p.0 (map (λ r. r.0) pairs) (first_of pairs p there)
]

module _ {T : Type 0} where
  pub tied_total : IsTotalOrder (λ (x y : T). Equal)
  tied_total = record {
    antisymm = λ x y. refl;
    trans = λ x y z before. cc;
    congr = λ x y z same. refl;
  }

  module _ (s : Store T) where
    paired : (pairs : List (ℕ × T)) (j : ℕ) → Contains (map (λ p. p.0) pairs) j → (x : T) × Contains pairs (j, x)
    paired [] j here = absurd (contains_none j here)
    paired (q ∷ pairs) j here = elim (contains_cases q.0 j (map (λ p. p.0) pairs) here) [
      | inl is ↦ (q.1, subst (λ k. Contains (q ∷ pairs) (k, q.1)) is (contains_head q pairs))
      | inr there ↦ let (x, listed) = paired pairs j there in (x, contains_tail q (j, x) pairs listed)
    ]

    from_slot : (n : ℕ) (slots : List (Option T)) (p : ℕ × T) → Contains (pairs_from n slots) p → n ≤ p.0
    from_slot n [] p here = absurd (contains_none p here)
    from_slot n (None ∷ slots) p here = let later = from_slot (n + 1) slots p here in omega (arith, later)
    from_slot n (Some x ∷ slots) p here = elim (contains_cases (n, x) p (pairs_from (n + 1) slots) here) [
      | inl is ↦ let same : n ≡ p.0 = ap (λ (q : ℕ × T). q.0) is in omega (arith, same)
      | inr there ↦ let later = from_slot (n + 1) slots p there in omega (arith, later)
    ]

    -- of two live indexes the lesser comes first
    pub lesser_first :
        (i j : ℕ) (x y : T)
        → get s i ≡ Some x
        → get s j ≡ Some y
        → i < j
        → ComesBefore itself (λ _ _. Equal) s i j
    lesser_first i j x y one other less =
        compares_live itself (λ _ _. Equal) s i j x y one other ∙ sym (nat_cmp_is i j Less less)

    placed_from :
        (n : ℕ) (slots : List (Option T))
        → ((p : ℕ × T) → Contains (pairs_from n slots) p → get s p.0 ≡ Some p.1)
        → IsInPlace itself (λ _ _. Equal) s (map (λ p. p.0) (pairs_from n slots))
    placed_from n [] live = none_placed itself (λ _ _. Equal) s
    placed_from n (None ∷ slots) live = placed_from (n + 1) slots live
    placed_from n (Some x ∷ slots) live =
        put_in_front itself (λ _ _. Equal) s n (map (λ p. p.0) (pairs_from (n + 1) slots)) (λ j there.
        let (y, listed) = paired (pairs_from (n + 1) slots) j there in
        let later = from_slot (n + 1) slots (j, y) listed in
        lesser_first n j x y (live (n, x) (contains_head (n, x) (pairs_from (n + 1) slots)))
        (live (j, y) (contains_tail (n, x) (j, y) (pairs_from (n + 1) slots) listed)) (omega (arith, later)))
        (placed_from (n + 1) slots (λ p here. live p (contains_tail (n, x) p (pairs_from (n + 1) slots) here)))

    pub SortsWithin-live : SortsWithin itself (λ _ _. Equal) (λ _. true) s (live_indexes s)
    SortsWithin-live = record {
      each = λ j. (
        λ here.
            let (x, listed) = paired (live_pairs s) j here in (x, ((IsWalkOf-live_pairs s).live j x).0 listed, refl),
        λ (x, live, passes). first_of (live_pairs s) (j, x) (((IsWalkOf-live_pairs s).live j x).1 live),
      );
      placed = placed_from 0 s.items (λ p here. ((IsWalkOf-live_pairs s).live p.0 p.1).0 here);
    }

    pub AreHits-live : (indexes : List ℕ) → indexes ≡ live_indexes s → AreHits s (λ _. true) indexes
    AreHits-live indexes is = rw is (record {
      each = SortsWithin-live.each;
      once = sorted_once itself (λ _ _. Equal) tied_total s (λ _. true) (live_indexes s) SortsWithin-live;
    })

-- sorted indexes of the items that pass are exactly theirs, each once
pub AreHits-sorted :
    {T : Type 0} (order : T → T → Ordering)
    → IsTotalOrder order
    → (within : T → Bool) (s : Store T) (indexes : List ℕ)
    → SortsWithin itself order within s indexes
    → AreHits s within indexes
AreHits-sorted order total within s indexes sorted = record {
  each = sorted.each;
  once = sorted_once itself order total s within indexes sorted;
}
