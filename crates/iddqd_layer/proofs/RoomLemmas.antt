-- How many inserts the memory of a layer has room for, after each call.
use Rattle.std.proofs.Common.{◌≡◌, ℕ, ◌+◌, ◌-◌, ◌<◌, ◌≤◌, List, [], ◌∷◌, min, max, length, get_or, set, zero, suc, refl, sym, ap, arith, All}
use Rattle.std.proofs.lemmas.List.{get_or_default, same_lists}
use Rattle.std.proofs.lemmas.List.Edits.{length-insert}
use Rattle.iddqd.specs.ItemSet.{SizedStore}
use Rattle.iddqd.specs.ItemSet as slots
use Rattle.iddqd.specs.Store.{Store, IsValid, live_count, slot_count}
use Rattle.iddqd_hash.specs.HashTable.{Table}
use Rattle.iddqd_hash.specs.HashTable as hash_table
use Rattle.iddqd_order.specs.MapBTreeTable.{Order, order_of, HasSameTree}
use Rattle.iddqd_order.specs.MapBTreeTable as order_table
use Rattle.iddqd_by_order.proofs.OrderedCountLemmas.{length-held}
use Rattle.iddqd_layer.specs.Layer.{Layer, Each, EachBy, FitsItsMemory, ForgetsOrdered, FreesHashRoom, IsPaired, IsPlaced, KeepsCapacity, KeepsHashRoom, KeepsHashRoomTo, SameCapacity, ShrinksOrdered, UsesHashRoom, hashed_of, least_of, ordered_of, room, store_of}
use Rattle.iddqd_layer.specs.declared.way.Way.{Way}
use Rattle.iddqd_by_hash.proofs.HashedCountLemmas.{len-held}
use Rattle.iddqd_order.proofs.GapLemmas.{order-same}
use Rattle.iddqd_hash.specs.MapHashTable.{filed}
use Rattle.iddqd_layer.proofs.LayerLemmas.{AllHashed, AllOrdered, least-at, least-start}

-- the same of the lists without their first members
each-rest :
    {A B : Type 0} (P : A → B → Type 0) (x : A) (y : B) (xs : List A) (ys : List B)
    → Each P (x ∷ xs) (y ∷ ys)
    → Each P xs ys
each-rest P x y xs ys e = record {
  long = (let long = e.long in omega arith);
  at = λ k a b lt. e.at (suc k) a b (omega arith);
}

-- two lists whose members are the same at each place
pub each-same : {A : Type 0} (xs ys : List A) → Each (λ x y. y ≡ x) xs ys → ys ≡ xs
each-same xs ys e = same_lists ys xs e.long (λ k d lt. let long = e.long in e.at k d d (omega arith))

module _ {A : Type 0} (f : A → ℕ) where
  -- if no f is less than before, their least isn't
  pub least-kept :
      (n m : ℕ) (xs ys : List A)
      → n ≤ m
      → Each (λ x y. f x ≤ f y) xs ys
      → least_of f n xs ≤ least_of f m ys
  least-kept n m [] [] le e = le
  least-kept n m [] (y ∷ ys) le e = absurd (let long = e.long in omega arith)
  least-kept n m (x ∷ xs) [] le e = absurd (let long = e.long in omega arith)
  least-kept n m (x ∷ xs) (y ∷ ys) le e =
      let here = e.at 0 x y (omega arith) in
      least-kept (min n (f x)) (min m (f y)) xs ys (omega arith) (each-rest (λ x y. f x ≤ f y) x y xs ys e)

  -- if each f is one less than before, so is their least
  pub least-less :
      (n m : ℕ) (xs ys : List A)
      → n ≡ m + 1
      → Each (λ x y. f x ≡ f y + 1) xs ys
      → least_of f n xs ≡ least_of f m ys + 1
  least-less n m [] [] is e = is
  least-less n m [] (y ∷ ys) is e = absurd (let long = e.long in omega arith)
  least-less n m (x ∷ xs) [] is e = absurd (let long = e.long in omega arith)
  least-less n m (x ∷ xs) (y ∷ ys) is e =
      let here = e.at 0 x y (omega arith) in
      least-less (min n (f x)) (min m (f y)) xs ys (omega arith) (each-rest (λ x y. f x ≡ f y + 1) x y xs ys e)

  -- if each f is one more than before, so is their least
  pub least-more :
      (n m : ℕ) (xs ys : List A)
      → m ≡ n + 1
      → Each (λ x y. f y ≡ f x + 1) xs ys
      → least_of f m ys ≡ least_of f n xs + 1
  least-more n m xs ys is e =
      least-less m n ys xs is
      (record { long = sym e.long; at = λ k a b lt. let long = e.long in e.at k b a (omega arith) })

  -- nor does the least change where one member is replaced by one with the same f
  pub least-set :
      (n : ℕ) (xs : List A) (k : ℕ) (v d : A)
      → k < length xs
      → f v ≡ f (get_or xs k d)
      → least_of f n (set xs k v) ≡ least_of f n xs
  least-set n [] k v d lt e = absurd (omega arith)
  least-set n (x ∷ xs) zero v d lt e = ap (λ z. least_of f (min n z) xs) e
  least-set n (x ∷ xs) (suc k) v d lt e = least-set (min n (f x)) xs k v d (omega arith) e

  -- what is left of the least if each f was left so much of
  pub least-left :
      (n m left : ℕ) (xs ys : List A)
      → min n left ≤ m
      → Each (λ x y. min (f x) left ≤ f y) xs ys
      → min (least_of f n xs) left ≤ least_of f m ys
  least-left n m left [] [] le e = le
  least-left n m left [] (y ∷ ys) le e = absurd (let long = e.long in omega arith)
  least-left n m left (x ∷ xs) [] le e = absurd (let long = e.long in omega arith)
  least-left n m left (x ∷ xs) (y ∷ ys) le e =
      let here = e.at 0 x y (omega arith) in
      least-left (min n (f x)) (min m (f y)) left xs ys (omega arith)
      (each-rest (λ x y. min (f x) left ≤ f y) x y xs ys e)

-- an ordered table that got another index, within its capacity
pub order-used :
    (ix : ℕ) (ways : List Way) (old new : List Order)
    → ((k : ℕ) (t : Order) → k < length old → 1 ≤ order_table.room (get_or old k t))
    → EachBy (IsPlaced ix) ways old new
    → Each SameCapacity old new
    → Each (λ t u. order_table.room t ≡ order_table.room u + 1) old new
order-used ix ways old new some placed same = record {
  long = same.long;
  at = λ k a b lt.
      let is = placed.at k (record { places = []; level = 0 }) a b lt in
      let more = length-insert (order_of (get_or old k a)) _ ix is.within in
      let long = ap length is.placed in
      let here = some k a lt in
      let can = same.at k a b lt in
      omega arith;
}

-- each ordered table has as many indexes as there are live ones
abbrev HaveAsMany : Store (Unit {0}) → List Order → Type 0
HaveAsMany s tables = (k : ℕ) (t : Order) → k < length tables → length (order_of (get_or tables k t)) ≡ live_count s

-- no ordered table has more indexes than its capacity
abbrev pub Fit : List Order → Type 0
Fit tables = (k : ℕ) (t : Order) → k < length tables
    → length (order_of (get_or tables k t)) ≤ order_table.capacity (get_or tables k t)

-- If there are fewer live indexes than before, and the capacities are the same, there is as much more room, and each
-- table that fitted its memory still does.
module _ (s s' : Store (Unit {0})) (old new : List Order) where
  module _ (was : HaveAsMany s old) (is : HaveAsMany s' new) where
    pub order-freed :
        live_count s ≡ live_count s' + 1
        → Fit old
        → Each SameCapacity old new
        → Each (λ t u. order_table.room u ≡ order_table.room t + 1) old new
    order-freed fewer fits same = record {
      long = same.long;
      at = λ k a b lt.
          let long = same.long in
          let before = was k a lt in
          let after = is k b (omega arith) in
          let fit = fits k a lt in
          let can = same.at k a b lt in
          omega arith;
    }

    pub order-kept :
        live_count s' ≤ live_count s
        → Each (λ t u. order_table.capacity t ≤ order_table.capacity u) old new
        → Each (λ t u. order_table.room t ≤ order_table.room u) old new
    order-kept fewer same = record {
      long = same.long;
      at = λ k a b lt.
          let long = same.long in
          let before = was k a lt in
          let after = is k b (omega arith) in
          let can = same.at k a b lt in
          omega arith;
    }

    pub order-fits :
        live_count s' ≤ live_count s
        → Each (λ t u. order_table.capacity t ≤ order_table.capacity u) old new
        → Fit old
        → Fit new
    order-fits fewer same fits k t lt =
        let long = same.long in
        let before = was k t (omega arith) in
        let after = is k t lt in
        let can = same.at k t t (omega arith) in
        let fit = fits k t (omega arith) in
        omega arith

lengths : (l : Layer) → IsPaired l → HaveAsMany (store_of l) (ordered_of l)
lengths l paired k t lt = length-held (store_of l) (order_of (get_or (ordered_of l) k t)) (paired.ordered k t lt)

-- the room of an ordered table is at least that of the whole layer
order-room : (l : Layer) (k : ℕ) (t : Order) → k < length (ordered_of l)
    → room l ≤ order_table.room (get_or (ordered_of l) k t)
order-room l k t lt =
    let n = least_of order_table.room (slots.room l.slots) (ordered_of l) in
    let all = least-start hash_table.room n (hashed_of l) in
    let here = least-at order_table.room (slots.room l.slots) (ordered_of l) k t lt in
    omega arith

module _ (old new : Layer) where
  -- an insert within the room
  pub room-used :
      (ix : ℕ) (ways : List Way)
      → 1 ≤ room old
      → slots.room old.slots ≡ slots.room new.slots + 1
      → Each UsesHashRoom (hashed_of old) (hashed_of new)
      → EachBy (IsPlaced ix) ways (ordered_of old) (ordered_of new)
      → Each SameCapacity (ordered_of old) (ordered_of new)
      → room old ≡ room new + 1
  room-used ix ways some slots_used hashes placed same =
      least-less hash_table.room _ _ (hashed_of old) (hashed_of new)
      (least-less order_table.room _ _ (ordered_of old) (ordered_of new) slots_used
      (order-used ix ways (ordered_of old) (ordered_of new)
      (λ k t lt. let here = order-room old k t lt in omega arith) placed same))
      hashes

  -- after it no ordered table has more indexes than its capacity
  pub fits-used :
      (ix : ℕ) (ways : List Way)
      → 1 ≤ room old
      → EachBy (IsPlaced ix) ways (ordered_of old) (ordered_of new)
      → Each SameCapacity (ordered_of old) (ordered_of new)
      → FitsItsMemory new
  fits-used ix ways some placed same k t lt =
      let long = same.long in
      let within : k < length (ordered_of old) = omega arith in
      let is = placed.at k (record { places = []; level = 0 }) t t within in
      let more = length-insert (order_of (get_or (ordered_of old) k t)) _ ix is.within in
      let list = ap length is.placed in
      let here = order-room old k t within in
      let can = same.at k t t within in
      omega arith

  -- tables whose rooms are no less
  pub room-kept :
      slots.room old.slots ≤ slots.room new.slots
      → Each KeepsHashRoom (hashed_of old) (hashed_of new)
      → Each (λ t u. order_table.room t ≤ order_table.room u) (ordered_of old) (ordered_of new)
      → room old ≤ room new
  room-kept slots_kept hashes orders =
      least-kept hash_table.room _ _ (hashed_of old) (hashed_of new)
      (least-kept order_table.room _ _ (ordered_of old) (ordered_of new) slots_kept orders)
      hashes

  module _ (was : IsPaired old) (is : IsPaired new) where
    -- a removal
    pub room-freed :
        live_count (store_of old) ≡ live_count (store_of new) + 1
        → FitsItsMemory old
        → slots.room new.slots ≡ slots.room old.slots + 1
        → Each FreesHashRoom (hashed_of old) (hashed_of new)
        → Each SameCapacity (ordered_of old) (ordered_of new)
        → room new ≡ room old + 1
    room-freed fewer fits slots_freed hashes same =
        least-more hash_table.room _ _ (hashed_of old) (hashed_of new)
        (least-more order_table.room _ _ (ordered_of old) (ordered_of new) slots_freed
        (order-freed (store_of old) (store_of new) (ordered_of old) (ordered_of new) (lengths old was)
        (lengths new is) fewer fits same))
        hashes

    pub room-held :
        live_count (store_of new) ≤ live_count (store_of old)
        → slots.room old.slots ≤ slots.room new.slots
        → Each KeepsHashRoom (hashed_of old) (hashed_of new)
        → Each KeepsCapacity (ordered_of old) (ordered_of new)
        → room old ≤ room new
    room-held fewer slots_kept hashes same =
        room-kept slots_kept hashes
        (order-kept (store_of old) (store_of new) (ordered_of old) (ordered_of new) (lengths old was)
        (lengths new is) fewer same)

    pub fits-held :
        live_count (store_of new) ≤ live_count (store_of old)
        → Each KeepsCapacity (ordered_of old) (ordered_of new)
        → FitsItsMemory old
        → FitsItsMemory new
    fits-held fewer same fits =
        order-fits (store_of old) (store_of new) (ordered_of old) (ordered_of new) (lengths old was)
        (lengths new is) fewer same fits

-- from a stronger fact
pub same-kept : (old new : List Order) → Each SameCapacity old new → Each KeepsCapacity old new
same-kept old new e = record { long = e.long; at = λ k a b lt. let here = e.at k a b lt in omega arith }

pub freed-kept : (old new : List (Table ℕ)) → Each FreesHashRoom old new → Each KeepsHashRoom old new
freed-kept old new e = record { long = e.long; at = λ k a b lt. let here = e.at k a b lt in omega arith }

-- a table without indexes has no more than its capacity
pub fits-empty : (old : List Order) (l : Layer) → Each ForgetsOrdered old (ordered_of l) → FitsItsMemory l
fits-empty old l e k t lt =
    let long = e.long in
    let none = ap length (e.at k t t (omega arith)) in
    omega arith

pub fits-new : (tables : List Order) → All (λ t. order_of t ≡ []) tables → Fit tables
fits-new tables all k t lt = let none = ap length (all k t lt) in omega arith

pub each-kept : {A : Type 0} (f : A → ℕ) (xs : List A) → Each (λ x y. f x ≤ f y) xs xs
each-kept f xs = record {
  long = refl;
  at = λ k a b lt. let same = ap f (get_or_default xs k a b lt) in omega arith;
}

pub each-left : {A : Type 0} (f : A → ℕ) (left : ℕ) (xs : List A) → Each (λ x y. min (f x) left ≤ f y) xs xs
each-left f left xs = record {
  long = refl;
  at = λ k a b lt. let same = ap f (get_or_default xs k a b lt) in omega arith;
}

-- ordered tables that keep their trees, and no less capacity
module _ (old new : List Order) (tree : Each HasSameTree old new) where
  list-same : (k : ℕ) (t : Order) → k < length old
      → length (order_of (get_or new k t)) ≡ length (order_of (get_or old k t))
  list-same k t lt = ap length (order-same (get_or old k t) (get_or new k t) (tree.at k t t lt))

  module _ (more : Each KeepsCapacity old new) where
    pub reserved-room : Each (λ t u. order_table.room t ≤ order_table.room u) old new
    reserved-room = record {
      long = more.long;
      at = λ k a b lt.
          let long = more.long in
          let default = get_or_default new k a b (omega arith) in
          let same = list-same k a lt in
          let other = ap (λ t. length (order_of t)) default in
          let can = more.at k a b lt in
          omega arith;
    }

    pub reserved-fits : Fit old → Fit new
    reserved-fits fits k t lt =
        let long = more.long in
        let same = list-same k t (omega arith) in
        let can = more.at k t t (omega arith) in
        let fit = fits k t (omega arith) in
        omega arith

-- a shrink leaves what room there was for `least` indexes in all
module _ (least : ℕ) where
  pub shrunk-slots :
      (old new : SizedStore (Unit {0}))
      → IsValid old.store
      → new.store ≡ old.store
      → min old.capacity (max least (slot_count old.store)) ≤ new.capacity
      → min (slots.room old) (least - live_count old.store) ≤ slots.room new
  shrunk-slots old new valid same left =
      let free = ap (λ s. length s.free) same in
      let limit = ap (λ s. s.limit) same in
      let count = ap slot_count same in
      let all = valid.counted in
      let small = valid.small in
      omega arith

  pub shrunk-hashed :
      (s : Store (Unit {0})) (old new : List (Table ℕ))
      → AllHashed s old
      → Each (KeepsHashRoomTo least) old new
      → Each (λ t u. min (hash_table.room t) (least - live_count s) ≤ hash_table.room u) old new
  shrunk-hashed s old new held e = record {
    long = e.long;
    at = λ k a b lt.
        let count = len-held s (filed (get_or old k a)) (held k a lt) in
        let here = e.at k a b lt in
        omega arith;
  }

  pub shrunk-ordered :
      (s : Store (Unit {0})) (old new : List Order)
      → AllOrdered s old
      → Each (ShrinksOrdered least) old new
      → Each (λ t u. min (order_table.room t) (least - live_count s) ≤ order_table.room u) old new
  shrunk-ordered s old new held e = record {
    long = e.long;
    at = λ k a b lt.
        let count = length-held s (order_of (get_or old k a)) (held k a lt) in
        let same = ap length (e.at k a b lt).contents in
        let made = (e.at k a b lt).shrunk in
        omega arith;
  }

  pub shrunk-fits : (old new : List Order) → Each (ShrinksOrdered least) old new → Fit old → Fit new
  shrunk-fits old new e fits k t lt =
      let long = e.long in
      let same = ap length (e.at k t t (omega arith)).contents in
      let made = (e.at k t t (omega arith)).shrunk in
      let fit = fits k t (omega arith) in
      omega arith

  pub room-left :
      (old new : Layer) (live : ℕ)
      → min (slots.room old.slots) (least - live) ≤ slots.room new.slots
      → Each (λ t u. min (hash_table.room t) (least - live) ≤ hash_table.room u) (hashed_of old) (hashed_of new)
      → Each (λ t u. min (order_table.room t) (least - live) ≤ order_table.room u) (ordered_of old) (ordered_of new)
      → min (room old) (least - live) ≤ room new
  room-left old new live slots_left hashes orders =
      least-left hash_table.room _ _ (least - live) (hashed_of old) (hashed_of new)
      (least-left order_table.room _ _ (least - live) (ordered_of old) (ordered_of new) slots_left orders)
      hashes
