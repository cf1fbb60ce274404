-- For callers: the first and the last index of a list that is in place have the least and the greatest key.
use Rattle.std.proofs.Common.{◌≡◌, ◌≢◌, ◌∙◌, ◌-◌, ◌<◌, inl, inr, ℕ, List, length, get_or, Some, None, sym, ap, subst, Ordering, arith}
use Rattle.std.specs.List.{slice_get}
use Rattle.std.specs.Option.{option_cmp}
use Rattle.std.specs.Ordering.{ordering_then, ordering_reverse}
use Rattle.std.specs.Cmp.{IsTotalOrder}
use Rattle.std.specs.declared.cmp.Ordering.TheVariants.{Less, Equal, Greater}
use Rattle.std.proofs.lemmas.Bool.{cases_lt}
use Rattle.std.proofs.lemmas.Cmp.{tied_itself}
use Rattle.std.proofs.lemmas.List.{get_or_default}
use Rattle.std.proofs.lemmas.List.Elements.{Contains-get_or}
use Rattle.std.proofs.lemmas.Map.Keys.{Less-from_sorted}
use Rattle.std.proofs.lemmas.Option.{get_or_from_slice_get, slice_get_within, slice_get-get_or}
use Rattle.iddqd.specs.Store.{Store, get}
use Rattle.iddqd.proofs.LiveLemmas.{item_at, live_at}
use Rattle.iddqd_order.specs.KeyOrder.{key_then_index}
use Rattle.iddqd_keys.specs.Scan.{IsLive}
use Rattle.iddqd_by_order.specs.Ordered.{Holds, IsInPlace, key_at, HasLeastKey, HasGreatestKey}

-- of two in order, the first hasn't the greater key
not_greater : (r s : Ordering) → ordering_then r s ≡ Less → r ≢ Greater
not_greater Less s e = λ g. cc
not_greater Equal s e = λ g. cc
not_greater Greater s e = cc

module _ {T : Type 0} (s : Store T) (order : List ℕ) (holds : Holds s order) where
  -- what stands at a place is live
  pub live_at_place : (i ix : ℕ) → slice_get order i ≡ Some ix → IsLive s ix
  live_at_place i ix is =
      subst (IsLive s) (get_or_from_slice_get order i ix 0 is)
      ((holds.each (get_or order i 0)).0 (Contains-get_or order i 0 (slice_get_within order i ix is)))

  -- where there is no last index, nothing is live
  pub none_from_no_last : slice_get order (length order - 1) ≡ None → (ix : ℕ) → IsLive s ix → ⊥
  none_from_no_last none ix live =
      let (k, within, at) = (holds.each ix).1 live in
      let there = slice_get-get_or order (length order - 1) 0 (omega (arith, within)) in
      cc

  module _ {K : Type 0} (key_of : T → K) (compare : K → K → Ordering) (total : IsTotalOrder compare)
      (placed : IsInPlace key_of compare s order) where
    -- along the list keys don't fall
    rises :
        (i j : ℕ) (x y : T)
        → i < j
        → j < length order
        → get s (get_or order i 0) ≡ Some x
        → get s (get_or order j 0) ≡ Some y
        → compare (key_of x) (key_of y) ≢ Greater
    rises i j x y before within p q =
        let less : key_then_index (option_cmp compare) (key_at key_of s) (get_or order i 0) (get_or order j 0) ≡ Less =
        Less-from_sorted _ order i j 0 placed before within in
        not_greater _ _ (rw (p, q) at less)

    -- the item of the one index at a place
    same_item :
        (i j : ℕ) (x y : T)
        → i ≡ j
        → get s (get_or order i 0) ≡ Some x
        → get s (get_or order j 0) ≡ Some y
        → compare (key_of x) (key_of y) ≡ Equal
    same_item i j x y same p q =
        let one : Some x ≡ Some y = sym p ∙ ap (λ k. get s (get_or order k 0)) same ∙ q in
        let is : x ≡ y = cc in
        subst (λ z. compare (key_of x) (key_of z) ≡ Equal) is (tied_itself total (key_of x))

    -- the place of a live index, and its item there
    at_place : (j : ℕ) (y : T) → get s j ≡ Some y → (k : ℕ) × (k < length order) × (get s (get_or order k 0) ≡ Some y)
    at_place j y there =
        let (k, within, at) = (holds.each j).1 (live_at s j y there) in
        (k, within, ap (get s) (get_or_default order k 0 j within ∙ at) ∙ there)

    pub HasLeastKey-first : (ix : ℕ) → slice_get order 0 ≡ Some ix → HasLeastKey key_of compare s ix
    HasLeastKey-first ix is =
        let (item, live) = item_at s ix (live_at_place 0 ix is) in
        let first : get s (get_or order 0 0) ≡ Some item =
        ap (get s) (get_or_from_slice_get order 0 ix 0 is) ∙ live in (
          item,
          live,
          λ j y there less.
              let (k, within, at) = at_place j y there in
              elim (cases_lt 0 k) [
                | inl later ↦
                    let turned = total.antisymm (key_of item) (key_of y) ∙ ap ordering_reverse less in
                    rises 0 k item y later within first at turned
                | inr none ↦
                    let equal = same_item k 0 y item (omega (arith, none)) at first in
                    absurd (let never : Equal ≡ Less = sym equal ∙ less in cc)
              ],
        )

    pub HasGreatestKey-last :
        (ix : ℕ)
        → slice_get order (length order - 1) ≡ Some ix
        → HasGreatestKey key_of compare s ix
    HasGreatestKey-last ix is =
        let end = length order - 1 in
        let (item, live) = item_at s ix (live_at_place end ix is) in
        let last : get s (get_or order end 0) ≡ Some item =
        ap (get s) (get_or_from_slice_get order end ix 0 is) ∙ live in
        let here = slice_get_within order end ix is in (
          item,
          live,
          λ j y there greater.
              let (k, within, at) = at_place j y there in
              elim (cases_lt k end) [
                | inl before ↦ rises k end y item before here at last greater
                | inr none ↦
                    let equal = same_item k end y item (omega (arith, none, within)) at last in
                    absurd (let never : Equal ≡ Greater = sym equal ∙ greater in cc)
              ],
        )
