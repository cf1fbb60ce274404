-- What a table in order reports of a store's items, as a key index has it.
use Rattle.std.proofs.Common.{◌≡◌, ◌≢◌, ◌∙◌, ℕ, List, Option, Bool, true, false, not, Some, None, Result, Ok, Err, refl, sym, Ordering}
use Rattle.std.specs.Cmp.{IsTotalOrder, eq_by_cmp_equiv}
use Rattle.std.specs.Fn.{Mut}
use Rattle.std.specs.Ordering.{eq_by_cmp}
use Rattle.iddqd.specs.Store.{Store, get, rebound}
use Rattle.iddqd_order.specs.Gap.{FindsGap, gap_place}
use Rattle.iddqd_order.specs.MapBTreeTable.{Order, order_of}
use Rattle.iddqd_order.specs.Search.{IsSteady}
use Rattle.iddqd_order.specs.declared.btree_table.asking.Asking.{Asking}
use Rattle.iddqd_order.specs.declared.btree_table.gap.Gap.{Gap}
use Rattle.iddqd_by_order.specs.Ordered.{Takes}
use Rattle.iddqd_keys.specs.OrderedQuery.{IsQuery-key}
use Rattle.iddqd_keys.specs.Scan.{AnswersScan}
use Rattle.iddqd_keys.specs.AnyTable.{HasDistinctKeys}
use Rattle.iddqd_by_order.proofs.OrderedFindLemmas.{answer, LooksUp-stored, IsVacantAt-placed}
use Rattle.iddqd_map.specs.KeyIndex.{PlansMove, TakesFound}
use Rattle.iddqd_map.specs.Map.{shares}
use Rattle.iddqd_map.specs.Several.{HasNoOther}
use Rattle.iddqd_ord_map.specs.ByOrder.{LooksPlaceUp}
use Rattle.iddqd_ord_map.specs.ByOrderLaws.{Sorts-kept, Sorts-scan}
use Rattle.iddqd_ord_map.specs.OrderedSteps.{moves, StaysByKey}
use Rattle.iddqd_ord_map.specs.OrderedIndexing.{Sorts, PlansOrConflicts}
use Rattle.iddqd_ord_map.specs.declared.ordered_move.Move.{Move}
use Rattle.iddqd_ord_map.specs.declared.ordered_move.Move.TheVariants.{Stays, Moves}
use Rattle.iddqd_ord_map.proofs.OrderedIndexingLemmas.{Sorts-removed}
use Rattle.iddqd_ord_map.proofs.OrderedMoveLemmas.{HasDistinctKeys-moved}

module _ {T K : Type 0} (key_of : T → K) (compare : K → K → Ordering) (total : IsTotalOrder compare) (s : Store T)
    (order : List ℕ) (o : Sorts key_of compare s order) (ix : ℕ) (item : T) where
  abbrev likeness : T → T → Bool
  likeness = shares key_of (eq_by_cmp compare)

  -- who shares the key with the item is the one whose place it takes
  no_other : (plan : Move) → PlansOrConflicts key_of compare s ix item (Ok plan) → HasNoOther s (likeness item) ix
  no_other Moves planned j hit = absurd (planned j hit)
  no_other Stays (y, is, same) j (x, there, like) =
      let e = eq_by_cmp_equiv total in
      o.in_sync.apart j ix x y there is (sym (e.congr (key_of item) (key_of x) (key_of y) like) ∙ same)

  moves_unlike :
      (plan : Move)
      → PlansOrConflicts key_of compare s ix item (Ok plan)
      → (was : T)
      → get s ix ≡ Some was
      → moves plan ≡ not (likeness item was)
  moves_unlike Stays (there, is, same) was live =
      let one : there ≡ was = (let e : Some there ≡ Some was = sym is ∙ live in cc) in
      rw (← one, same) refl
  moves_unlike Moves planned was live = by_cases (likeness item was) refl
    where
      by_cases : (b : Bool) → likeness item was ≡ b → true ≡ not (likeness item was)
      by_cases true is = absurd (planned ix (was, live, is))
      by_cases false is = rw is refl

  pub PlansMove-sorted :
      (r : Result Move ℕ)
      → PlansOrConflicts key_of compare s ix item r
      → PlansMove (likeness item) (likeness item) (λ plan. PlansOrConflicts key_of compare s ix item (Ok plan)) moves
      (λ at. (at ≢ ix) × AnswersScan s (likeness item) (Some at)) s ix r
  PlansMove-sorted (Ok plan) planned = (planned, no_other plan planned, moves_unlike plan planned)
  PlansMove-sorted (Err at) taken = taken

-- what a search for the place of an item's key reports, where each answer reads as the comparison with the key
module _ {T K : Type 0} (key_of : T → K) (compare : K → K → Ordering) (total : IsTotalOrder compare) (s : Store T)
    (t : Order) (o : Sorts key_of compare s (order_of t)) (item : T) {F R : Type 0} (g : Mut F (ℕ × Unit {0}) R)
    (read : R → Ordering) (old new : Asking F)
    (steady :
    IsSteady g (order_of t) None read (answer key_of compare s (order_of t) (compare (key_of item))) old) where
  pub LooksPlaceUp-found : (r : Result Gap ℕ) → FindsGap g read t old r new → LooksPlaceUp key_of compare s t item r
  LooksPlaceUp-found (Err ix) (asked, found) =
      (LooksUp-stored key_of compare s (order_of t) (compare (key_of item)) o.held g read old new total
      (IsQuery-key compare total (key_of item)) steady ix found.stored found.hit).as_scan o.in_sync
  LooksPlaceUp-found (Ok gap) (asked, found) =
      let query = IsQuery-key compare total (key_of item) in
      let vacant =
      IsVacantAt-placed key_of compare s (order_of t) (compare (key_of item)) o.held g read old new total query steady
      (gap_place t gap) found.within found.place found.miss in
      (vacant.missed.as_scan o.in_sync, record { fits = found.fits; vacant = vacant })

-- what a removal leaves
module _ {T K : Type 0} (key_of : T → K) (compare : K → K → Ordering) (total : IsTotalOrder compare) (s : Store T)
    (order : List ℕ) (o : Sorts key_of compare s order) where
  -- the index that a look-up found was taken out
  pub TakesFound-taken :
      {S : Type 0} (state : S) (test : T → Bool) (r : Option ℕ) (new : List ℕ)
      → AnswersScan s test r
      → Takes order r new
      → TakesFound (λ (_ : S) t. Sorts key_of compare t new) state s r
  TakesFound-taken state test (Some ix) new scan is =
      let (item, live, passed) = (scan ix).1 refl in
      rw is (Sorts-removed key_of compare s order o total ix item live)
  TakesFound-taken state test None new scan is = rw is o

-- a planned move stays where the key does, and leaves no two items with one key
module _ {T K : Type 0} (key_of : T → K) (compare : K → K → Ordering) where
  pub stays_by_key :
      (s : Store T) (ix : ℕ) (item : T) (plan : Move)
      → PlansOrConflicts key_of compare s ix item (Ok plan)
      → StaysByKey key_of compare s ix item plan
  stays_by_key s ix item Stays planned = planned
  stays_by_key s ix item Moves planned = tt

  pub HasDistinctKeys-planned :
      (total : IsTotalOrder compare) (s : Store T) (order : List ℕ)
      → Sorts key_of compare s order
      → (ix : ℕ) (item was : T)
      → get s ix ≡ Some was
      → (plan : Move)
      → PlansOrConflicts key_of compare s ix item (Ok plan)
      → HasDistinctKeys key_of (eq_by_cmp compare) (rebound s ix item)
  HasDistinctKeys-planned total s order o ix item was live Stays planned =
      (Sorts-kept key_of compare total s order o ix item was live planned).in_sync.apart
  HasDistinctKeys-planned total s order o ix item was live Moves planned =
      HasDistinctKeys-moved key_of compare total s order (Sorts-scan key_of compare s order o) ix item was live
      o.in_sync.apart planned
