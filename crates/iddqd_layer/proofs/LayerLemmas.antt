-- What keeps the tables of a layer paired with its store.
use Rattle.std.proofs.Common.{◌≡◌, ◌∙◌, ℕ, zero, suc, ◌<◌, ◌≤◌, List, [], ◌∷◌, min, length, get_or, slice_index, refl, sym, ap, subst, arith, inl, inr, Some, None, Contains, All, Result, Ok, Err}
use Rattle.std.specs.Prelude.{OnOk, OnErr}
use Rattle.std.proofs.Common.{IsSome, set, get_or-set_other, get_or-set_same, length-set}
use Rattle.std.proofs.lemmas.Bool.{cases_eq}
use Rattle.std.specs.FinMap.{FinMap}
use Rattle.std.specs.Ordering.{nat_cmp}
use Rattle.iddqd_hash.proofs.MemberLemmas.{get-insert_at, get-insert_other, get-remove_other}
use Rattle.std.specs.FinMap as finite
use Rattle.std.proofs.Common.{Option}
use Rattle.std.specs.List.{AllZip}
use Rattle.std.proofs.lemmas.List.Elements.{AllZip-get_or, length_all_zip, same_from_all_zip}
use Rattle.iddqd.specs.Clones.{IsItemClone, IsStoreClone}
use Rattle.iddqd.specs.Compaction.{compacted, rank}
use Rattle.iddqd.specs.Store.{Store, empty, slot_limit, cleared, IsValid, next_index, inserted, removed, get}
use Rattle.iddqd_hash.specs.HashTable.{Table}
use Rattle.iddqd_hash.specs.MapHashTable.{filed}
use Rattle.iddqd_order.specs.MapBTreeTable.{Order, order_of, HasSameTree}
use Rattle.iddqd_order.proofs.GapLemmas.{order-same}
use Rattle.iddqd_order.proofs.SameTreeLemmas.{HasGap-same, gap_behind-same}
use Rattle.iddqd_by_hash.specs.Hashed as by_hash
use Rattle.iddqd_by_hash.proofs.HoldsLemmas as hash_lemmas
use Rattle.iddqd_by_order.specs.Ordered as by_order
use Rattle.iddqd_by_order.proofs.OrderedHoldsLemmas as order_lemmas
use Rattle.iddqd_layer.specs.Layer.{Layer, IsPaired, store_of, hashed_of, ordered_of, Each, EachBy, ForgetsHashed, ForgetsOrdered, RenamesHashed, RenamesOrdered, IsFiled, IsPlaced, IsRefiled, IsTakenOut, IsUnfiled, ShrinksOrdered, LeadsToGap, SameFiled, SameOrder, descent_of, least_of}
use Rattle.iddqd_layer.specs.declared.way.Way.{Way}

-- `value` is what a table has, and `Holds` says that it has exactly the live indexes of a store
module _ {A X : Type 0} (value : A → X) (Holds : Store (Unit {0}) → X → Type 0) where
  abbrev pub AllHold : Store (Unit {0}) → List A → Type 0
  AllHold s tables = (k : ℕ) (t : A) → k < length tables → Holds s (value (get_or tables k t))

  -- a step of the store and of each table keeps this, if it does for one
  pub all-stepped :
      (s s' : Store (Unit {0})) (P : A → A → Type 0) (old new : List A)
      → ((a b : A) → Holds s (value a) → P a b → Holds s' (value b))
      → AllHold s old
      → Each P old new
      → AllHold s' new
  all-stepped s s' P old new step holds e k t lt =
      let long = e.long in
      step (get_or old k t) (get_or new k t) (holds k t (omega arith)) (e.at k t t (omega arith))

  -- the same where the step has something of its own for each table
  pub all-stepped_by :
      {C : Type 0} (s s' : Store (Unit {0})) (P : C → A → A → Type 0) (by : List C) (other : C) (old new : List A)
      → ((c : C) (a b : A) → Holds s (value a) → P c a b → Holds s' (value b))
      → AllHold s old
      → EachBy P by old new
      → AllHold s' new
  all-stepped_by s s' P by other old new step holds e k t lt =
      let long = e.long in
      step (get_or by k other) (get_or old k t) (get_or new k t) (holds k t (omega arith))
      (e.at k other t t (omega arith))

  -- a copy of each table
  pub all-copied :
      (s : Store (Unit {0})) (P : A → A → Type 0) (old new : List A)
      → ((a b : A) → Holds s (value a) → P a b → Holds s (value b))
      → AllHold s old
      → AllZip P old new
      → AllHold s new
  all-copied s P old new step holds zip k t lt =
      let long = length_all_zip P old new zip in
      step (get_or old k t) (get_or new k t) (holds k t (omega arith)) (AllZip-get_or P old new k t t zip (omega arith))

-- each table has exactly the live indexes
abbrev pub AllHashed : Store (Unit {0}) → List (Table ℕ) → Type 0
AllHashed = AllHold filed by_hash.Holds

abbrev pub AllOrdered : Store (Unit {0}) → List Order → Type 0
AllOrdered = AllHold order_of by_order.Holds

-- an index that gets another hash stays the only one of its kind
refiled :
    (s : Store (Unit {0})) (m : FinMap nat_cmp ℕ) (ix hash : ℕ)
    → by_hash.Holds s m
    → IsSome (finite.get m ix)
    → by_hash.Holds s (finite.insert (finite.remove m ix) ix hash)
refiled s m ix hash holds here j =
    elim (cases_eq j ix) [
      | inl e ↦
          (let now : finite.get (finite.insert (finite.remove m ix) ix hash) j ≡ Some hash =
          rw e (get-insert_at (finite.remove m ix) ix hash) in
          (λ _. (holds j).0 (rw e here), λ _. rw now refl))
      | inr ne ↦
          (let now : finite.get (finite.insert (finite.remove m ix) ix hash) j ≡ finite.get m j =
          get-insert_other (finite.remove m ix) ix hash j ne ∙ get-remove_other m ix j ne in
          rw now (holds j))
    ]

module _ (s : Store (Unit {0})) (old new : List (Table ℕ)) where
  pub hashed-same : AllHashed s old → Each SameFiled old new → AllHashed s new
  hashed-same =
      all-stepped filed by_hash.Holds s s SameFiled old new (λ a b held is. subst (by_hash.Holds s) (sym is) held)

  pub hashed-inserted :
      (hashes : List ℕ)
      → IsValid s
      → AllHashed s old
      → EachBy (IsFiled (next_index s)) hashes old new
      → AllHashed (inserted s tt) new
  hashed-inserted hashes valid =
      all-stepped_by filed by_hash.Holds s (inserted s tt) (IsFiled (next_index s)) hashes 0 old new
      (λ hash a b held is.
      subst (by_hash.Holds (inserted s tt)) (sym is) (hash_lemmas.Holds-inserted s (filed a) held tt hash valid))

  pub hashed-removed :
      (ix : ℕ)
      → get s ix ≡ Some tt
      → AllHashed s old
      → Each (IsUnfiled ix) old new
      → AllHashed (removed s ix) new
  hashed-removed ix live =
      all-stepped filed by_hash.Holds s (removed s ix) (IsUnfiled ix) old new
      (λ a b held is.
      subst (by_hash.Holds (removed s ix)) (sym is) (hash_lemmas.Holds-removed s (filed a) held ix tt live))

  pub hashed-cleared : AllHashed s old → Each ForgetsHashed old new → AllHashed (cleared s) new
  hashed-cleared =
      all-stepped filed by_hash.Holds s (cleared s) ForgetsHashed old new
      (λ a b held is. subst (by_hash.Holds (cleared s)) (sym is) (hash_lemmas.Holds-cleared s))

  pub hashed-compacted :
      AllHashed s old
      → Each (RenamesHashed (rank s)) old new
      → AllHashed (compacted s) new
  hashed-compacted =
      all-stepped filed by_hash.Holds s (compacted s) (RenamesHashed (rank s)) old new
      (λ a b held is. hash_lemmas.Holds-compacted s (filed a) held (filed b) is)

  -- one table of all, in which an index got another hash
  pub hashed-refiled :
      (ix hash key : ℕ) (v : Table ℕ)
      → AllHashed s old
      → new ≡ set old key v
      → IsSome (finite.get (filed (get_or old key v)) ix)
      → IsRefiled ix hash (get_or old key v) v
      → AllHashed s new
  hashed-refiled ix hash key v holds is here re k t lt =
      let long = ap length is ∙ length-set old key v in
      elim (cases_eq k key) [
        | inl e ↦
            (let at : get_or new k t ≡ v =
            ap (λ z. get_or new z t) e ∙ ap (λ z. get_or z key t) is ∙ get_or-set_same old key v t (omega arith) in
            let was = holds key v (omega arith) in
            subst (λ z. by_hash.Holds s (filed z)) (sym at)
            (subst (by_hash.Holds s) (sym re) (refiled s (filed (get_or old key v)) ix hash was here)))
        | inr ne ↦
            (let at : get_or new k t ≡ get_or old k t = ap (λ z. get_or z k t) is ∙ get_or-set_other old key k v t ne in
            subst (λ z. by_hash.Holds s (filed z)) (sym at) (holds k t (omega arith)))
      ]

  pub unfiled-next : IsValid s → AllHashed s old → (k : ℕ) (t : Table ℕ) → k < length old
      → finite.get (filed (get_or old k t)) (next_index s) ≡ None
  unfiled-next valid holds k t lt = hash_lemmas.next_unfiled s (filed (get_or old k t)) (holds k t lt) valid

pub hashed-empty :
    (tables : List (Table ℕ))
    → All (λ t. filed t ≡ finite.empty) tables
    → AllHashed empty tables
hashed-empty tables all k t lt =
    let s : Store (Unit {0}) = empty in
    subst (λ z. by_hash.Holds s z) (sym (all k t lt)) (hash_lemmas.Holds-empty (Unit {0}) slot_limit)

module _ (s : Store (Unit {0})) (old new : List Order) where
  pub ordered-same : AllOrdered s old → Each HasSameTree old new → AllOrdered s new
  ordered-same =
      all-stepped order_of by_order.Holds s s HasSameTree old new
      (λ a b held is. subst (by_order.Holds s) (sym (order-same a b is)) held)

  pub ordered-inserted :
      (ways : List Way)
      → IsValid s
      → AllOrdered s old
      → EachBy (IsPlaced (next_index s)) ways old new
      → AllOrdered (inserted s tt) new
  ordered-inserted ways valid =
      all-stepped_by order_of by_order.Holds s (inserted s tt) (IsPlaced (next_index s)) ways
      (record { places = []; level = 0 }) old new
      (λ way a b held is.
      order_lemmas.Holds-inserted s (order_of a) held tt valid (order_of b)
      (record { place = _; within = is.within; added = is.placed }))

  pub ordered-removed :
      (ix : ℕ)
      → get s ix ≡ Some tt
      → AllOrdered s old
      → Each (IsTakenOut ix) old new
      → AllOrdered (removed s ix) new
  ordered-removed ix live =
      all-stepped order_of by_order.Holds s (removed s ix) (IsTakenOut ix) old new
      (λ a b held is.
      subst (by_order.Holds (removed s ix)) (sym is) (order_lemmas.Holds-removed s (order_of a) held ix tt live))

  pub ordered-cleared : AllOrdered s old → Each ForgetsOrdered old new → AllOrdered (cleared s) new
  ordered-cleared =
      all-stepped order_of by_order.Holds s (cleared s) ForgetsOrdered old new
      (λ a b held is. subst (by_order.Holds (cleared s)) (sym is) (order_lemmas.Holds-cleared s))

  pub ordered-compacted :
      AllOrdered s old
      → Each (RenamesOrdered (rank s)) old new
      → AllOrdered (compacted s) new
  ordered-compacted =
      all-stepped order_of by_order.Holds s (compacted s) (RenamesOrdered (rank s)) old new
      (λ a b held is.
      subst (by_order.Holds (compacted s)) (sym is) (order_lemmas.Holds-compacted s (order_of a) held))

  pub absent-next : IsValid s → AllOrdered s old → (k : ℕ) (t : Order) → k < length old
      → Contains (order_of (get_or old k t)) (next_index s) → ⊥
  absent-next valid holds k t lt = order_lemmas.next_absent s (order_of (get_or old k t)) (holds k t lt) valid

pub ordered-empty : (tables : List Order) → All (λ t. order_of t ≡ []) tables → AllOrdered empty tables
ordered-empty tables all k t lt =
    let s : Store (Unit {0}) = empty in
    subst (λ z. by_order.Holds s z) (sym (all k t lt)) (order_lemmas.Holds-empty (Unit {0}) slot_limit)

-- the parts of a layer, whose store is s
pub paired :
    (l : Layer) (s : Store (Unit {0}))
    → store_of l ≡ s
    → IsValid s
    → AllHashed s (hashed_of l)
    → AllOrdered s (ordered_of l)
    → IsPaired l
paired l s e valid hashed ordered = record {
  valid = subst IsValid (sym e) valid;
  hashed = λ k t lt. subst (λ z. by_hash.Holds z (filed (get_or (hashed_of l) k t))) (sym e) (hashed k t lt);
  ordered = λ k t lt. subst (λ z. by_order.Holds z (order_of (get_or (ordered_of l) k t))) (sym e) (ordered k t lt);
}

-- what was done to tables that only have other memory
pub filed-from :
    (ix : ℕ) (hashes : List ℕ) (old mid new : List (Table ℕ))
    → Each SameFiled old mid
    → EachBy (IsFiled ix) hashes mid new
    → EachBy (IsFiled ix) hashes old new
filed-from ix hashes old mid new same e = record {
  long = e.long ∙ same.long;
  at = λ k c a b lt.
      let long = same.long in
      e.at k c a b (omega arith) ∙ ap (λ z. finite.insert z ix (get_or hashes k c)) (same.at k a a lt);
}

pub placed-from :
    (ix : ℕ) (ways : List Way) (old mid new : List Order)
    → Each HasSameTree old mid
    → EachBy (IsPlaced ix) ways mid new
    → EachBy (IsPlaced ix) ways old new
placed-from ix ways old mid new same e = record {
  long = e.long ∙ same.long;
  at = λ k c a b lt.
      let long = same.long in
      let is = e.at k c a b (omega arith) in
      let w = get_or ways k c in
      let tree = same.at k a a lt in
      let list = order-same (get_or old k a) (get_or mid k a) tree in
      let gap = gap_behind-same (get_or old k a) (get_or mid k a) (descent_of w) (slice_index w.places 0) tree in
      record { within = rw (← gap, ← list) is.within; placed = rw (← gap, ← list) is.placed };
}

pub ways-still :
    (ways : List Way) (old mid : List Order) → Each HasSameTree old mid → Each LeadsToGap old ways
    → Each LeadsToGap mid ways
ways-still ways old mid same e = record {
  long = e.long ∙ sym same.long;
  at = λ k a b lt.
      let long = same.long in
      let w = get_or ways k b in
      HasGap-same (get_or old k a) (get_or mid k a) (descent_of w) (slice_index w.places 0)
      (same.at k a a (omega arith)) (e.at k a b (omega arith));
}

-- the least of what f gives
module _ {A : Type 0} (f : A → ℕ) where
  pub least-start : (n : ℕ) (xs : List A) → least_of f n xs ≤ n
  least-start n [] = omega arith
  least-start n (x ∷ xs) = let rest = least-start (min n (f x)) xs in omega arith

  pub least-at : (n : ℕ) (xs : List A) (k : ℕ) (a : A) → k < length xs → least_of f n xs ≤ f (get_or xs k a)
  least-at n [] k a lt = absurd (omega arith)
  least-at n (x ∷ xs) zero a lt = let rest = least-start (min n (f x)) xs in omega arith
  least-at n (x ∷ xs) (suc k) a lt = least-at (min n (f x)) xs k a (omega arith)

  pub least-above :
      (m n : ℕ) (xs : List A)
      → m ≤ n
      → ((k : ℕ) (a : A) → k < length xs → m ≤ f (get_or xs k a))
      → m ≤ least_of f n xs
  least-above m n [] le all = le
  least-above m n (x ∷ xs) le all =
      let here = all 0 x (omega arith) in
      least-above m (min n (f x)) xs (omega arith) (λ k a lt. all (suc k) a (omega arith))

pub on_ok : {A E X Y : Type 0} (r : Result A E) → (X → Y) → OnOk r X → OnOk r Y
on_ok (Ok v) f x = f x
on_ok (Err e) f x = tt

pub on_err : {A E X Y : Type 0} (r : Result A E) → (X → Y) → OnErr r X → OnErr r Y
on_err (Ok v) f x = tt
on_err (Err e) f x = f x

pub on_any_err : {A E X : Type 0} (r : Result A E) → X → OnErr r X
on_any_err (Ok v) x = tt
on_any_err (Err e) x = x

-- what gave memory back kept its tree
pub shrunk-same : (least : ℕ) (old new : List Order) → Each (ShrinksOrdered least) old new → Each HasSameTree old new
shrunk-same least old new e = record { long = e.long; at = λ k a b lt. (e.at k a b lt).tree }

-- copies
slot-same : (C : Unit {0} → Unit {0} → Type 0) (x y : Option (Unit {0})) → IsItemClone C x y → y ≡ x
slot-same C None y r = r
slot-same C (Some item) y r = r.1

pub store-same : (C : Unit {0} → Unit {0} → Type 0) (s copy : Store (Unit {0})) → IsStoreClone C s copy → copy ≡ s
store-same C s copy r =
    let items = same_from_all_zip (IsItemClone C) s.items copy.items r.items (slot-same C) in
    λ i. record { items = items i; free = r.free i; limit = r.limit i }

pub hashed-copied :
    (s : Store (Unit {0})) (old new : List (Table ℕ))
    → AllHashed s old
    → AllZip SameFiled old new
    → AllHashed s new
hashed-copied s old new =
    all-copied filed by_hash.Holds s SameFiled old new (λ a b held is. subst (by_hash.Holds s) (sym is) held)

pub ordered-copied :
    (s : Store (Unit {0})) (old new : List Order)
    → AllOrdered s old
    → AllZip SameOrder old new
    → AllOrdered s new
ordered-copied s old new =
    all-copied order_of by_order.Holds s SameOrder old new (λ a b held is. subst (by_order.Holds s) (sym is) held)
