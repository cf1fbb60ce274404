-- For callers of maps: what a look-up found passes the test; what an item became that was replaced, changed or
-- modified; what each call of a closure leaves holds of an item that was modified by it; what a removal leaves of the
-- others, and that none is left of a group; which items sorted indexes have; `retain` leaves no more items than there
-- were; and a copy whose clones are the items has the same store.
use Rattle.std.proofs.Common.{◌≡◌, ◌∙◌, ◌≤◌, ◌==◌, ℕ, zero, suc, Bool, true, false, List, [], ◌∷◌, slice_set, Option, Some, None, is_some, cond, refl, sym, subst, ap, arith}
use Rattle.std.specs.Prelude.{Result, Ok, Err, IfOk, MatchOption}
use Rattle.std.specs.Borrow.{MutBor}
use Rattle.std.specs.Cmp.{unsigned_tied}
use Rattle.std.specs.Fn.{Once, FnOnceReturnsAtMut}
use Rattle.std.specs.List.{AllZip, count_by, each_same}
use Rattle.std.specs.Ordering.{nat_cmp}
use Rattle.std.proofs.lemmas.Cmp.{nat_cmp_total}
use Rattle.std.proofs.lemmas.List.Sums.{sum_by-cons}
use Rattle.iddqd.proofs.LiveLemmas.{get-removed_other}
use Rattle.iddqd.specs.Clones.{IsItemClone, IsStoreClone}
use Rattle.iddqd.specs.Store.{Store, get, live_count, rebound, removed}
use Rattle.iddqd_keys.specs.KeyWalk.{SortsWithin}
use Rattle.iddqd_keys.specs.OrderedQuery.{is_equal}
use Rattle.iddqd_keys.specs.Scan.{IsHit, HasNoHit, AnswersScan}
use Rattle.iddqd_keys.proofs.SortedLemmas.{sorted_once}
use Rattle.iddqd_map.specs.Calls.{Changes, Replaces}
use Rattle.iddqd_map.specs.Groups.{AreHits}
use Rattle.iddqd_map.specs.Map.{MapState, FindsItem, IsOnly, Removes}
use Rattle.iddqd_map.specs.Modify.{Modifies}
use Rattle.iddqd_map.specs.RangeRetain.{KeepsMisses}
use Rattle.iddqd_map.specs.Ranges.{LeavesOthers}
use Rattle.iddqd_keys.specs.Removals.{removed_all}
use Rattle.iddqd_map.specs.Retain.{Retains, removed_of}
use Rattle.iddqd_map.specs.declared.refusal.ReplaceRefusal.{ReplaceRefusal}

module _ {T : Type 0} (s : Store T) (test : T → Bool) where
  -- the item at the index that a scan answers passes
  answer_passes : (ix : ℕ) (item : T) → get s ix ≡ Some item → AnswersScan s test (Some ix) → test item ≡ true
  answer_passes ix item live scan =
      let (other, is, passes) = (scan ix).1 refl in
      let same : other ≡ item = cc in
      subst (λ x. test x ≡ true) same passes

  -- what a look-up found passes the test that it was by
  pub found_passes : (item : T) → FindsItem s test (Some item) → test item ≡ true
  found_passes item (ix, only) = answer_passes ix item only.live only.only

  -- two look-ups by one test find the same item
  pub found_same : (x y : T) → FindsItem s test (Some x) → FindsItem s test (Some y) → x ≡ y
  found_same x y (i, one) (j, other) =
      let same : j ≡ i = (one.only j).0 (y, other.live, answer_passes j y other.live other.only) in
      let there : get s i ≡ Some y = subst (λ k. get s k ≡ Some y) same other.live in
      let here = one.live in
      cc

module _ {T C : Type 0} (alike same : T → T → Bool) (may_lack : Bool) (taken : Store T → ℕ → T → C → Type 0)
    (old new : MapState T) (test : T → Bool)
  where
    -- a replacement hands back the one item that passed, at whose index the new one is now
    pub replaced_one :
        (item : T) (result : Result T (ReplaceRefusal T C))
        → Replaces alike same may_lack taken old test item result new
        → IfOk result (λ was. (ix : ℕ) × IsOnly old.store test ix was × (new.store ≡ rebound old.store ix item))
    replaced_one item (Ok was) (ix, only, becomes) = (ix, record { live = becomes.live; only = only }, becomes.left)
    replaced_one item (Err refusal) replaces = tt

    -- and a change, at whose index what the closure made of it is now
    pub changed_one :
        (gives : T → T → Type 0) (was : T)
        → Changes alike same may_lack taken gives old test (Ok (Some was)) new
        → (ix : ℕ) × (item : T) × IsOnly old.store test ix was × gives was item
        × (new.store ≡ rebound old.store ix item)
    changed_one gives was (ix, only, (one, item, live, gave, becomes)) =
        let here : Some one ≡ Some was = sym live ∙ becomes.live in
        let same_one : one ≡ was = cc in
        (ix, item, record { live = becomes.live; only = only }, subst (λ x. gives x item) same_one gave, becomes.left)

-- a removal leaves the items that don't pass where they were
pub removed_keeps :
    {T : Type 0} (old new : MapState T) (test : T → Bool) (taken : Option T)
    → Removes old test taken new
    → KeepsMisses old.store test new.store
removed_keeps old new test None removes = λ ix misses. ap (λ m. get m.store ix) removes.1
removed_keeps old new test (Some item) removes = λ ix misses.
    ap (λ s. get s ix) removes.left
    ∙ get-removed_other old.store removes.ix ix
    (λ same. misses (subst (IsHit old.store test) (sym same) ((removes.hit.only removes.ix).1 refl)))

-- after a call that keeps the items that fail a test such an item is still at its index, and a vacant index is vacant
module _ {T : Type 0} (old new : Store T) (test : T → Bool) (others : KeepsMisses old test new) where
  pub other_stays : (ix : ℕ) (item : T) → get old ix ≡ Some item → test item ≡ false → get new ix ≡ Some item
  other_stays ix item live fails =
      others ix (λ (one, is, passes). (let same : Some one ≡ Some item = sym is ∙ live in cc)) ∙ live

  pub vacant_stays : (ix : ℕ) → get old ix ≡ None → get new ix ≡ None
  vacant_stays ix vacant =
      others ix (λ (one, is, passes). (let both : None ≡ Some one = sym vacant ∙ is in cc)) ∙ vacant

-- each call of the closure at an item answers and leaves what `Leaves was result is` says
module _
    {F T R : Type 0} (g : Once F (MutBor T × Unit {0}) (R × (MutBor T × Unit {0}))) (f : F)
    (Leaves : T → R → T → Type 0)
    (leaves : (item left : MutBor T) (result : R) → g.post f (item, tt) (result, (left, tt)) → Leaves item.now result
    left.now)
  where
    -- so this holds of an item that was modified by it
    pub called_leaves : (was is : T) (result : R) → FnOnceReturnsAtMut g f was result is → Leaves was result is
    called_leaves was is result called =
        let at_shown = subst (λ item. Leaves called.shown.now result item) called.leaves (leaves called.shown called.left result called.met) in
        subst (λ item. Leaves item result is) called.shows at_shown

    -- and the one item that a test finds is modified so, if there is one
    pub modified_one :
        (old new : MapState T) (test : T → Bool) (result : Option R)
        → Modifies g f old test result new
        → MatchOption result (HasNoHit old.store test × (new ≡ old)) (λ r. (ix : ℕ) × (was is : T)
        × IsOnly old.store test ix was × Leaves was r is × (new.store ≡ rebound old.store ix is))
    modified_one old new test None none = none
    modified_one old new test (Some r) hit =
        let one = hit.modified in
        (hit.ix, one.was, one.is, hit.hit, called_leaves one.was one.is r one.called, one.left)

-- a slot less
fewer_set :
    {T : Type 0} (slots : List (Option T)) (ix : ℕ)
    → count_by is_some (slice_set slots ix None) ≤ count_by is_some slots
fewer_set [] ix = omega arith
fewer_set {T} (slot ∷ slots) zero =
    let left = sum_by-cons (λ (o : Option T). cond (is_some o) 1 0) None slots in
    let all = sum_by-cons (λ o. cond (is_some o) 1 0) slot slots in
    let less : count_by {X = Option T} is_some (None ∷ slots) ≤ count_by is_some (slot ∷ slots) = omega (arith, left, all) in
    less
fewer_set {T} (slot ∷ slots) (suc ix) =
    let left = sum_by-cons (λ (o : Option T). cond (is_some o) 1 0) slot (slice_set slots ix None) in
    let all = sum_by-cons (λ o. cond (is_some o) 1 0) slot slots in
    let fewer = fewer_set slots ix in
    let less : count_by is_some (slot ∷ slice_set slots ix None) ≤ count_by is_some (slot ∷ slots) = omega (arith, left, all, fewer) in
    less

pub fewer_all : {T : Type 0} (s : Store T) (indexes : List ℕ) → live_count (removed_all s indexes) ≤ live_count s
fewer_all s [] = omega arith
fewer_all s (ix ∷ rest) =
    let first = fewer_set s.items ix in
    let others = fewer_all (removed s ix) rest in
    omega (arith, first, others)

module _ {F T : Type 0} (ask : F → T → Bool → F → Type 0) (f : F) (old new : MapState T) where
  -- `retain` leaves no more items than there were
  pub retains_fewer : Retains ask f old new → live_count new.store ≤ live_count old.store
  retains_fewer retains = subst (λ s. live_count s ≤ live_count old.store) (sym retains.retained.left) (fewer_all old.store (removed_of retains.retained.asks))

-- sorted indexes of a group are exactly those of the items with the key, an unsigned number
pub sorted_hits :
    {T : Type 0} (key_of : T → ℕ) (s : Store T) (key : ℕ) (indexes : List ℕ)
    → SortsWithin key_of nat_cmp (is_equal (nat_cmp key)) s indexes
    → AreHits s (λ item. key == key_of item) indexes
sorted_hits key_of s key indexes sorted = record {
  each = λ ix. (
    λ here.
        let (item, live, passes) = (sorted.each ix).0 here in
        (item, live, sym (unsigned_tied key (key_of item)) ∙ passes),
    λ (item, live, passes). (sorted.each ix).1 (item, live, unsigned_tied key (key_of item) ∙ passes),
  );
  once = sorted_once key_of nat_cmp nat_cmp_total s (is_equal (nat_cmp key)) indexes sorted;
}

-- after the removal of a group or a range no item of it is left
pub none_left : {T : Type 0} (old new : Store T) (test : T → Bool) → LeavesOthers old test new → HasNoHit new test
none_left old new test leaves ix (item, there, passes) =
    let fails : IsHit old test ix → ⊥ = λ hit. (let gone : None ≡ Some item = sym (leaves.gone ix hit) ∙ there in cc) in
    fails (item, sym (leaves.others ix fails) ∙ there, passes)

module _ {T : Type 0} (is_clone : T → T → Type 0) (same : (x y : T) → is_clone x y → y ≡ x) where
  same_slots : (xs ys : List (Option T)) → AllZip (IsItemClone is_clone) xs ys → AllZip (λ x y. y ≡ x) xs ys
  same_slots [] [] all = all
  same_slots [] (y ∷ ys) all = absurd all
  same_slots (x ∷ xs) [] all = absurd all
  same_slots (None ∷ xs) (y ∷ ys) (none, all) = (none, same_slots xs ys all)
  same_slots (Some x ∷ xs) (y ∷ ys) ((other, is, clone), all) =
      (is ∙ ap Some (same x other clone), same_slots xs ys all)

  -- a copy has the same store, if each clone is the item
  pub copied_same : (s copy : Store T) → IsStoreClone is_clone s copy → copy ≡ s
  copied_same s copy is =
      let items = each_same s.items copy.items (same_slots s.items copy.items is.items) in
      let free = is.free in
      let limit = is.limit in
      λ i. record { items = items i; free = free i; limit = limit i }
