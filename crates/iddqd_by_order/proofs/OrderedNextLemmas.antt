-- What stands at a place of a sorted list, and behind it.
use Rattle.std.proofs.Common.{◌≡◌, ◌∙◌, ◌+◌, ◌<◌, ◌≤◌, inl, inr, ℕ, Bool, true, suc, List, drop, get_or, length, Option, Some, None, IfSome, refl, sym, ap, subst, Ordering, arith, slice_index}
use Rattle.std.specs.Cmp.{IsTotalOrder}
use Rattle.std.specs.List.{slice_get}
use Rattle.std.proofs.Math.Seq.{drop-cons}
use Rattle.std.proofs.lemmas.Bool.{cases_eq, cases_lt}
use Rattle.std.proofs.lemmas.List.{drop_all, get_or_default}
use Rattle.std.proofs.lemmas.List.Elements.{Contains-get_or}
use Rattle.std.proofs.lemmas.Map.Keys.{Less-from_sorted}
use Rattle.std.proofs.lemmas.Option.{slice_get-get_or, slice_get_past}
use Rattle.iddqd.specs.Store.{Store}
use Rattle.iddqd.proofs.LiveLemmas.{item_at, live_at}
use Rattle.iddqd_by_order.specs.Ordered.{IsSortedScan}
use Rattle.iddqd_keys.specs.KeyWalk.{ComesBefore, IsFirstHit, IsNextHit, SortsWithin}
use Rattle.iddqd_keys.specs.Scan.{IsHit, IsLive, passes_by}
use Rattle.iddqd_keys.proofs.KeyWalkLemmas.{IsFirstHit-head, IsFirstHit-none, totals}
use Rattle.iddqd_keys.proofs.NextLemmas.{not_before_itself}

-- the first of a list's end
pub first-at :
    {T K : Type 0} (key_of : T → K) (compare : K → K → Ordering) (s : Store T) (order : List ℕ) (within : K → Bool)
    (place : ℕ)
    → SortsWithin key_of compare within s (drop place order)
    → IsFirstHit key_of compare s (passes_by key_of within) (slice_get order place)
first-at key_of compare s order within place sorts = elim (cases_lt place (length order)) [
  | inl lt ↦ subst (IsFirstHit key_of compare s (passes_by key_of within)) (sym (slice_get-get_or order place 0 lt)) (IsFirstHit-head key_of compare s within (get_or order place 0) (drop (suc place) order) (drop place order) sorts (drop-cons order place 0 lt))
  | inr le ↦ subst (IsFirstHit key_of compare s (passes_by key_of within)) (sym (slice_get_past order place le)) (IsFirstHit-none key_of compare s within (drop place order) sorts (drop_all place order le))
]

-- `some` is `all` or None, so what holds of the value of `all` holds of that of `some`
pub IfSome-same :
    {A : Type 0} (P : A → Type 0) (all some : Option A)
    → IfSome some (λ a. all ≡ Some a)
    → IfSome all P
    → IfSome some P
IfSome-same P all None same holds = tt
IfSome-same P all (Some a) same holds = subst (λ o. IfSome o P) same holds

module _
    {T K : Type 0} (key_of : T → K) (compare : K → K → Ordering) (total : IsTotalOrder compare) (s : Store T)
    (order : List ℕ) (o : IsSortedScan key_of compare s order) (place : ℕ) (within : place < length order)
  where
    abbrev here : ℕ
    here = slice_index order place

    in_order : (i j : ℕ) → i < j → j < length order → ComesBefore key_of compare s (get_or order i 0) (get_or order j 0)
    in_order i j lt less = Less-from_sorted _ order i j 0 o.placed lt less

    -- what comes behind stands behind
    stands-behind :
        (k : ℕ)
        → k < length order
        → ComesBefore key_of compare s here (get_or order k 0)
        → place < k
    stands-behind k less before = elim (cases_lt place k) [
      | inl lt ↦ lt
      | inr le ↦ absurd (elim (cases_eq k place) [
        | inl same ↦ not_before_itself key_of compare total s here (subst (λ z. ComesBefore key_of compare s here (get_or order z 0)) same before)
        | inr apart ↦ not_before_itself key_of compare total s here ((totals key_of compare total s).trans here (get_or order k 0) here before (in_order k place (omega arith) within))
      ])
    ]

    -- where a live index stands
    place-of :
        (j : ℕ)
        → IsHit s (λ _. true) j
        → (k : ℕ) × (k < length order) × (get_or order k 0 ≡ j)
    place-of j (item, is, _) =
        let (k, less, same) = (o.holds.each j).1 (live_at s j item is) in
        (k, less, get_or_default order k 0 j less ∙ same)

    next-some :
        place + 1 < length order
        → IsNextHit key_of compare s (λ _. true) here (Some (get_or order (place + 1) 0))
    next-some more =
        let n : ℕ = get_or order (place + 1) 0 in
        let (item, is) = item_at s n ((o.holds.each n).0 (Contains-get_or order (place + 1) 0 more)) in (
          (item, is, refl),
          in_order place (place + 1) (omega arith) more,
          λ j hit before apart.
              let (k, less, same) = place-of j hit in
              let behind = stands-behind k less (subst (ComesBefore key_of compare s here) (sym same) before) in
              elim (cases_eq k (place + 1)) [
                | inl next ↦ absurd (apart (sym same ∙ ap (λ z. get_or order z 0) next))
                | inr later ↦ subst (ComesBefore key_of compare s n) same (in_order (place + 1) k (omega arith) less)
              ],
        )

    next-none :
        length order ≤ place + 1
        → IsNextHit key_of compare s (λ _. true) here None
    next-none last j hit before =
        let (k, less, same) = place-of j hit in
        let behind = stands-behind k less (subst (ComesBefore key_of compare s here) (sym same) before) in
        absurd (omega arith)

    live-next : (next : Option ℕ) → IsNextHit key_of compare s (λ _. true) here next → IfSome next (IsLive s)
    live-next None is = tt
    live-next (Some n) ((item, live, _), _, _) = live_at s n item live

    next-at : IsNextHit key_of compare s (λ _. true) here (slice_get order (place + 1))
    next-at = elim (cases_lt (place + 1) (length order)) [
      | inl more ↦ subst (IsNextHit key_of compare s (λ _. true) here) (sym (slice_get-get_or order (place + 1) 0 more)) (next-some more)
      | inr last ↦ subst (IsNextHit key_of compare s (λ _. true) here) (sym (slice_get_past order (place + 1) last)) (next-none last)
    ]

    module _ (next : Option ℕ) (is : next ≡ slice_get order (place + 1)) where
      -- the index behind a place is the next hit, where every item passes
      pub IsNextHit-behind : IsNextHit key_of compare s (λ _. true) here next
      IsNextHit-behind = subst (IsNextHit key_of compare s (λ _. true) here) (sym is) next-at

      -- and if there is one, it is live
      pub IsLive-behind : IfSome next (IsLive s)
      IsLive-behind = live-next next IsNextHit-behind
