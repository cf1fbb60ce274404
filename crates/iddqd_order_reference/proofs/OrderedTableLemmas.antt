-- What the calls of a sorted vector leave of its list.
use Rattle.std.proofs.Common.{◌+◌, slice_index}
use Rattle.iddqd_order_reference.proofs.Names.{ap, ◌≡◌, ◌≢◌, ℕ, List, Option, Some, None, Result, is_some, true, length, refl, sym, subst, arith, nat_eq, All, Contains, Bool, Ordering, Mut, Asking, IsDistinct, IsIndexList, sentinel, SearchesWithin, Searches, digits}
use Rattle.std.proofs.lemmas.Map.Made.{IsDistinct-keys_filter}
use Rattle.iddqd_order.specs.MapBTreeTable.{StandsAt}
use Rattle.iddqd_order.specs.Retain.{RetainsTo}
use Rattle.iddqd_order.specs.Stepping.{IsAllBetween, StandsBetween}
use Rattle.iddqd_order.proofs.IndexListLemmas.{Contains-at}
use Rattle.iddqd_order.proofs.SearchLemmas.{SearchesWithin-more}
use Rattle.iddqd_order.proofs.GatherLemmas.{all_kept}

-- a search by halves asks within the bound of a table
pub Searches-from_halves :
    {F R : Type 0} (g : Mut F (ℕ × Unit {0}) R) (read : R → Ordering) (xs : List ℕ) (sought : Option ℕ)
    (old new : Asking F) (end : Result ℕ ℕ)
    → SearchesWithin g read xs (digits (length xs)) sought old end new
    → Searches g read xs sought old end new
Searches-from_halves g read xs sought old new end s = SearchesWithin-more g read sought (omega arith) s

-- an index that stands at a place is stored
pub Contains-from_place :
    (xs : List ℕ) (ix : ℕ) (place : Option ℕ)
    → StandsAt xs ix place
    → is_some place ≡ true
    → Contains xs ix
Contains-from_place xs ix None there found = cc
Contains-from_place xs ix (Some i) there found = let here = there i refl in Contains-at xs i ix here.0 (sym here.1)

-- distinct indexes stay distinct if only those are kept at which a closure answers true
pub IsIndexList-retained :
    {F : Type 0} (g : Mut F (ℕ × Unit {0}) Bool) (f last : F) (xs ys : List ℕ)
    → RetainsTo g f xs ys last
    → IsIndexList xs
    → IsIndexList ys
IsIndexList-retained g f last xs ys kept h = record {
  distinct = subst (IsDistinct nat_eq) (sym kept.kept) (IsDistinct-keys_filter nat_eq (λ (a : ℕ × Bool). a.1) kept.asks (subst (IsDistinct nat_eq) (sym kept.each_once) h.distinct));
  assigned = subst (All (λ ix. ix ≢ sentinel)) (sym kept.kept) (all_kept (λ ix. ix ≢ sentinel) kept.asks (subst (All (λ ix. ix ≢ sentinel)) (sym kept.each_once) h.assigned));
}

-- the vector's one row is the whole list
pub all-stand : (xs : List ℕ) → StandsBetween xs xs 0 (length xs)
all-stand xs = record {
  place = λ i. i;
  from = λ i lt. omega arith;
  to = λ i lt. lt;
  index = λ i lt. refl;
  rises = λ i j less within. less;
  within = omega arith;
}

pub all-between : (xs : List ℕ) → IsAllBetween xs xs 0 (length xs)
all-between xs = record {
  long = omega arith;
  index = λ i lt. (let same : 0 + i ≡ i = omega arith in ap (slice_index xs) same);
  within = omega arith;
}
