-- What becomes of the memory of a store and two tables, and what room each part has.
use Rattle.std.proofs.Common.{◌≡◌, ◌∙◌, ◌<◌, ◌≤◌, ◌+◌, ◌-◌, ◌*◌, ◌⊎◌, inl, inr, ℕ, zero, suc, Bool, true, false, cond, List, [], ◌∷◌, length, map, Option, Some, None, Result, Ok, Err, IfOk, OnOk, OnSome, refl, sym, ap, subst, arith, min, max}
use Rattle.std.specs.Ordering.{nat_cmp}
use Rattle.std.specs.FinMap as finite
use Rattle.std.specs.FinMap.{FinMap}
use Rattle.std.specs.Cmp.{nat_cmp_total}
use Rattle.std.proofs.lemmas.Bool.{cases_lt}
use Rattle.std.proofs.lemmas.Cmp.{tied_itself}
use Rattle.std.proofs.lemmas.List.{length-map}
use Rattle.iddqd.specs.Store.{Store, IsValid, empty_within, live_count, slot_count}
use Rattle.iddqd.specs.ItemSet.{SizedStore, room as set_room}
use Rattle.iddqd.specs.Sizes.{doubled}
use Rattle.iddqd.proofs.LiveCountLemmas.{live_count-inserted, live_count-removed}
use Rattle.iddqd_hash.specs.HashTable.{Table, HasNoMemory, UsesRoom, entries, capacity as hashed_capacity, memory as hashed_cells, room as hashed_room}
use Rattle.iddqd_hash.specs.MapHashTable.{filed, filed_from, swapped, indexes_of}
use Rattle.iddqd_hash.specs.Sizes as hash_sizes
use Rattle.iddqd_hash.specs.Sizes.{most_cells, Reserves}
use Rattle.iddqd_order.specs.MapBTreeTable.{Order, order_of, capacity as ordered_capacity, room as order_room, capacity_for}
use Rattle.iddqd_order.specs.Sizes as order_sizes
use Rattle.iddqd_by_order.proofs.OrderedCountLemmas.{length-held}
use Rattle.iddqd_driver.specs.Keys.{Keys}
use Rattle.iddqd_driver.specs.State.{State, state_of, empty_state_within, IsPaired}
use Rattle.iddqd_driver.specs.Machine.{Removes, StoresAt}
use Rattle.iddqd_driver.specs.Memory.{Memory, SizedState, IsMadeFor, IsNoLower, InsertsInMemory, no_memory, HasRoomInParts, memory_of, ReservesInMemory, ShrinksInMemory, sized_of, capacity, room, reservable}
use Rattle.iddqd_driver.specs.declared.keyed_items.InsertRefusal.{InsertRefusal}
use Rattle.iddqd_driver.proofs.KeepsLemmas.{Holds-order}
use Rattle.iddqd_driver.proofs.ValidationLemmas.{filed_has_live_indexes}

-- ---- what stays

pub IsNoLower-same : (old new : Memory) → new ≡ old → IsNoLower old new
IsNoLower-same old new same =
    rw same (record { slots = omega arith; hashed = omega arith; cells = omega arith; ordered = omega arith })

pub IsNoLower-after : (old mid new : Memory) → IsNoLower old mid → IsNoLower mid new → IsNoLower old new
IsNoLower-after old mid new first second = record {
  slots = omega arith;
  hashed = omega arith;
  cells = omega arith;
  ordered = omega arith;
}

-- a store and two tables that hold what they held are paired
pub paired_still :
    {T S : Type 0} (hasher : S) (store new_store : Store T) (table new_table : Table ℕ) (order new_order : Order)
    → IsPaired (state_of hasher store table order)
    → new_store ≡ store
    → filed new_table ≡ filed table
    → order_of new_order ≡ order_of order
    → IsPaired (state_of hasher new_store new_table new_order)
paired_still hasher store new_store table new_table order new_order paired stored hashed ordered =
    rw (stored, hashed, ordered) paired

-- ---- how much a table of no index can hold

no_pairs : (es : List (ℕ × ℕ)) → filed_from es ≡ finite.empty → length es ≡ 0
no_pairs [] none = refl
no_pairs (e ∷ es) none =
    let same = tied_itself nat_cmp_total e.1 in
    let stored : finite.get (filed_from (e ∷ es)) e.1 ≡ Some e.0 =
    finite.get-from_entries nat_cmp_total (map swapped (e ∷ es)) e.1 ∙ rw same refl in
    let never : Some e.0 ≡ None = sym stored ∙ ap (λ (m : FinMap nat_cmp ℕ). finite.get m e.1) none ∙ finite.get-empty nat_cmp e.1 in
    absurd (cc)

pub length-entries_of_none : (t : Table ℕ) → filed t ≡ finite.empty → length (entries t) ≡ 0
unfolding filed
length-entries_of_none t none = no_pairs (entries t) none

len_or_one_more : (b : Bool) (m n : ℕ) → m ≤ n → cond b m (m + 1) ≤ suc n
len_or_one_more true m n fewer = omega arith
len_or_one_more false m n fewer = omega arith

filed_within : (es : List (ℕ × ℕ)) → finite.len (filed_from es) ≤ length es
filed_within [] = rw (finite.len-empty nat_cmp ℕ) (omega arith)
filed_within (e ∷ es) =
    rw (finite.len-insert nat_cmp_total (filed_from es) e.1 e.0)
    (len_or_one_more _ (finite.len (filed_from es)) (length es) (filed_within es))

-- a table has a pair for each index that it files
len-within : (t : Table ℕ) → finite.len (filed t) ≤ length (entries t)
unfolding filed
len-within t = filed_within (entries t)

-- ---- how many indexes the tables have

module _ {T S : Type 0} (s : State T S) (paired : IsPaired s) where
  pub length-filed : finite.len s.filed ≡ live_count s.store
  length-filed =
      finite.len-entries s.filed ∙ sym (length-map (finite.entries s.filed) (λ e. e.0))
      ∙ length-held s.store (indexes_of s.filed) (filed_has_live_indexes s paired)

  -- as many cells as one more index needs are as many as one more item needs
  pub few_for_live :
      (old new : ℕ)
      → new ≤ max old (most_cells (finite.len s.filed + 1))
      → new ≤ max old (most_cells (live_count s.store + 1))
  few_for_live old new few = subst (λ n. new ≤ max old (most_cells (n + 1))) length-filed few

  pub length-order : length s.order ≡ live_count s.store
  length-order = length-held s.store s.order (Holds-order s paired)

-- ---- the room of a collection and that of its parts

module _ {T S : Type 0} (hasher : S) (items : SizedStore T) (table : Table ℕ) (order : Order) where
  abbrev whole : SizedState T S
  whole = sized_of hasher items table order

  pub HasRoomInParts-from_room : IsPaired whole.state → 1 ≤ room whole → HasRoomInParts items table order
  HasRoomInParts-from_room paired some = record {
    slots = omega (arith, paired.valid.counted, paired.valid.small);
    hashed = omega (arith, length-filed whole.state paired);
    ordered = omega (arith, length-order whole.state paired);
  }

-- what holds where parts have room holds where the whole has
pub InsertsInMemory-where :
    {T : Type 0} {parts whole : Type 0} {old new : Memory} {r : Result ℕ (InsertRefusal T)} → (whole → parts)
    → InsertsInMemory parts old r new → InsertsInMemory whole old r new
InsertsInMemory-where has did = record {
  no_lower = did.no_lower;
  same_ordered = did.same_ordered;
  refused_early = did.refused_early;
  had_room = λ some. did.had_room (has some);
  not_refused = λ some. did.not_refused (has some);
}

module _ {T S : Type 0} (old new : SizedState T S) (paired : IsPaired old.state) where
  -- an insert with room takes that of one item
  pub room-inserted :
      {K1 K2 : Type 0} (keys : Keys T K1 K2 S) (item : T) (r : Result ℕ (InsertRefusal T))
      → IfOk r (λ ix. StoresAt keys old.state item ix new.state)
      → InsertsInMemory (1 ≤ room old) old.memory r new.memory → OnOk r (1 ≤ room old → room old ≡ room new + 1)
  room-inserted keys item (Err refusal) stored did = tt
  room-inserted keys item (Ok ix) stored did = λ some.
      let same = did.had_room some in
      let more = live_count-inserted old.state.store item paired.valid stored.not_full in
      room_of_less (ap (λ (s : State T S). s.store.limit) stored.state) same
      (ap (λ (s : State T S). live_count s.store) stored.state ∙ more) some
    where
      room_of_less : new.state.store.limit ≡ old.state.store.limit → new.memory ≡ old.memory
          → live_count new.state.store ≡ live_count old.state.store + 1 → 1 ≤ room old → room old ≡ room new + 1
      room_of_less limit same more some = rw (limit, same, more) (omega arith)

  -- a removal gives that of one item back
  pub room-removed :
      (ix : ℕ) (r : Option T) → Removes old.state ix r new.state → new.memory ≡ old.memory
      → OnSome r (live_count old.state.store ≤ capacity old → room new ≡ room old + 1)
  room-removed ix None did same = tt
  room-removed ix (Some item) did same = λ within.
      let fewer = live_count-removed old.state.store ix item paired.valid did.0 in
      let limit = ap (λ (s : State T S). s.store.limit) did.1 in
      let lives = ap (λ (s : State T S). live_count s.store) did.1 in
      room_of_more limit same (fewer ∙ ap (λ n. n + 1) (sym lives)) within
    where
      room_of_more : new.state.store.limit ≡ old.state.store.limit → new.memory ≡ old.memory
          → live_count old.state.store ≡ live_count new.state.store + 1 → live_count old.state.store ≤ capacity old
          → room new ≡ room old + 1
      room_of_more limit same fewer within = rw (limit, same) (omega arith)

-- ---- memory taken for one item

-- a set that can grow has slots for at most twice as many items, at least for four, or as many as it had
pub few_slots :
    {T : Type 0} (old new : SizedStore T)
    → IsValid old.store
    → (1 ≤ set_room old → new ≡ old)
    → (set_room old ≡ 0 → new.capacity ≡ doubled old)
    → new.capacity ≤ max old.capacity (min old.store.limit (max 4 (2 * live_count old.store)))
few_slots old new valid kept grown = elim (none_or_some (set_room old)) [
  | inl none ↦ omega (arith, none, grown none, valid.counted)
  | inr some ↦ omega (arith, ap (λ (s : SizedStore _). s.capacity) (kept some))
]
  where
    none_or_some : (n : ℕ) → (n ≡ 0) ⊎ (1 ≤ n)
    none_or_some zero = inl refl
    none_or_some (suc n) = inr (omega arith)

pub none_fits : (wanted free : ℕ) → wanted ≡ 0 → wanted ≤ free
none_fits wanted free none = omega arith

-- a number is at most the greater of it and another
pub not_more : (n more : ℕ) → n ≤ max n more
not_more n more = omega arith

-- an insert into a store and two tables, which grew first
pub InsertsInParts-stored :
    {T U E : Type 0} (items grown : SizedStore T) (slots : ℕ) (table mid_table new_table : Table ℕ) (order : Order)
    (ordered : ℕ) (r : Result U E) (ix : ℕ)
    → items.capacity ≤ grown.capacity
    → (1 ≤ set_room items → grown ≡ items)
    → slots ≡ grown.capacity
    → Reserves 1 table r mid_table
    → hashed_capacity table ≤ hashed_capacity mid_table
    → hashed_capacity table ≡ finite.len (filed table) + hashed_room table
    → UsesRoom mid_table new_table
    → ordered ≡ ordered_capacity order
    → InsertsInMemory {T = T}
    (HasRoomInParts items table order)
    (memory_of items table order)
    (Ok ix)
    (record { slots = slots; hashed = hashed_capacity new_table; cells = hashed_cells new_table; ordered = ordered })
InsertsInParts-stored items grown slots table mid_table new_table order ordered r ix more kept slots-is reserves held counted used ordered-is =
    record {
      no_lower = record {
        slots = omega (arith, more, slots-is);
        hashed = omega (arith, held, used.same_capacity);
        cells = omega (arith, reserves.memory_stays, used.same_memory);
        ordered = omega (arith, ordered-is);
      };
      same_ordered = ordered-is;
      refused_early = tt;
      had_room = λ parts.
          let room : 1 ≤ hashed_room table = omega (arith, parts.hashed, counted) in
          let mid : mid_table ≡ table = (reserves.had_room room).1 in
          let same : grown ≡ items = kept parts.slots in
          rw (slots-is, used.same_capacity, used.same_memory, ordered-is, mid, same) refl;
      not_refused = λ _. tt;
    }

pub few_cells :
    (old mid new few : ℕ) → mid ≤ max old few → new ≡ mid → new ≤ max old few
few_cells old mid new few most same = omega (arith, most, same)

pub few_slots_by :
    {T : Type 0} (old grown : SizedStore T) (slots : ℕ)
    → IsValid old.store
    → (1 ≤ set_room old → grown ≡ old)
    → (set_room old ≡ 0 → grown.capacity ≡ doubled old)
    → slots ≡ grown.capacity
    → slots ≤ max old.capacity (min old.store.limit (max 4 (2 * live_count old.store)))
few_slots_by old grown slots valid kept grows same = rw same (few_slots old grown valid kept grows)

-- ---- memory taken ahead

-- so many indexes fit the blocks that they need
fits_blocks : (n : ℕ) → n ≤ capacity_for n
fits_blocks n = omega arith

least_of_four : (n a b c d : ℕ) → n ≤ a → n ≤ b → n ≤ c → n ≤ d → n ≤ min (min a b) (min c d)
least_of_four n a b c d first second third fourth = omega arith

room_from : (held live more : ℕ) → live + more ≤ held → more ≤ held - live
room_from held live more fits = omega arith

-- there was that room, so nothing changed
pub ReservesInMemory-had :
    {T S E : Type 0} (k : SizedState T S) (additional : ℕ)
    → reservable additional k ≤ room k
    → ReservesInMemory {E = E} additional k (Ok tt) k
ReservesInMemory-had k additional enough = record {
  contents = refl;
  no_lower = IsNoLower-same _ _ refl;
  reserved = enough;
  had_room = λ _. (refl, refl);
  few_slots = not_more _ _;
  few_cells = not_more _ _;
  few_blocks = not_more _ _;
}

-- how many items a reserve is to make room for, from what was read
module _
    {T S : Type 0} (k : SizedState T S) (additional limit len wanted : ℕ) (limit_is : limit ≡ k.state.store.limit)
    (len_is : len ≡ live_count k.state.store) (wanted_is : wanted ≡ min additional (limit - len))
  where
    pub wanted_reservable : wanted ≡ reservable additional k
    wanted_reservable = omega (arith, limit_is, len_is, wanted_is)

    pub had_enough : (free : ℕ) → free ≡ room k → wanted ≤ free → reservable additional k ≤ room k
    had_enough free free_is enough = omega (arith, wanted_reservable, free_is, enough)

    pub lacks_room : (free : ℕ) → free ≡ room k → free < wanted → room k < wanted
    lacks_room free free_is fewer = omega (arith, free_is, fewer)

    pub slots_within :
        IsValid k.state.store
        → (items slots : ℕ)
        → items ≡ live_count k.state.store
        → items + wanted ≤ slots
        → live_count k.state.store + wanted ≤ min slots k.state.store.limit
    slots_within valid items slots items_is reserved =
        omega (arith, wanted_reservable, items_is, reserved, valid.counted, valid.small)

pub not_fewer : (n : ℕ) → n ≤ n
not_fewer n = omega arith

pub few_slots_for :
    (live items wanted slots held limit : ℕ)
    → items ≡ live
    → slots ≤ max held (max (items + wanted) (min limit (2 * held)))
    → slots ≤ max held (max (live + wanted) (min limit (2 * held)))
few_slots_for live items wanted slots held limit items_is few = rw (← items_is) few

-- what the parts took for so many more items
module _
    {T S : Type 0} (hasher : S) (items new_items : SizedStore T) (table new_table : Table ℕ)
    (order new_order : Order) (additional : ℕ) where
  abbrev was : SizedState T S
  was = sized_of hasher items table order

  abbrev is : SizedState T S
  is = sized_of hasher new_items new_table new_order

  module _
      {E : Type 0} (wanted : ℕ) (r : Result (Unit {0}) E) (paired : IsPaired was.state)
      (meant : wanted ≡ reservable additional was) (lacks : room was < wanted)
      (same_store : new_items.store ≡ items.store) (slots_stay : items.capacity ≤ new_items.capacity)
      (slots : live_count items.store + wanted ≤ min new_items.capacity items.store.limit)
      (few : new_items.capacity
      ≤ max items.capacity (max (live_count items.store + wanted) (min items.store.limit (2 * items.capacity))))
      (same_filed : filed new_table ≡ filed table)
      (hashed : hash_sizes.Reserves {T = ℕ} {A = Unit {0}} {E = E} wanted table (Ok tt) new_table)
      (hashed_stays : hashed_capacity table ≤ hashed_capacity new_table)
      (counted : hashed_capacity table ≡ finite.len (filed table) + hashed_room table)
      (ordered : order_sizes.Reserves wanted order r new_order) where
    abbrev live : ℕ
    live = live_count items.store

    few_blocks : order_sizes.Reserves wanted order r new_order → (r' : Result (Unit {0}) E) → r ≡ r'
        → ordered_capacity new_order ≤ max (ordered_capacity order) (capacity_for (live + wanted))
    few_blocks did (Err error) is =
        let same : ordered_capacity new_order ≡ ordered_capacity order = ap ordered_capacity (rw is at did.refused) in
        omega (arith, same)
    few_blocks did (Ok done) is = elim (cases_lt (order_room order) wanted) [
      | inl less ↦
          let made : ordered_capacity new_order ≡ capacity_for (length (order_of order) + wanted) = rw is at (did.made less) in
          let as_many = made ∙ ap (λ n. capacity_for (n + wanted)) (length-order was.state paired) in
          at_most (ordered_capacity new_order) (ordered_capacity order) (capacity_for (live + wanted)) as_many
      | inr enough ↦
          let same : ordered_capacity new_order ≡ ordered_capacity order = ap ordered_capacity (did.had_room enough).1 in
          omega (arith, same)
    ]
      where
        at_most : (n a b : ℕ) → n ≡ b → n ≤ max a b
        at_most n a b same = omega arith

    files_live : finite.len (filed new_table) ≡ live
    files_live = ap finite.len same_filed ∙ length-filed was.state paired

    orders_live : length (order_of new_order) ≡ live
    orders_live = ap length ordered.contents ∙ length-order was.state paired

    reserved : (r' : Result (Unit {0}) E) → r ≡ r' → OnOk r' (reservable additional was ≤ room is)
    reserved (Err error) is_so = tt
    reserved (Ok done) is_so =
        let in_order : wanted ≤ order_room new_order = rw is_so at ordered.reserved in
        let first : live + wanted ≤ new_items.capacity = omega (arith, slots) in
        let second : live + wanted ≤ items.store.limit = omega (arith, slots) in
        let third : live + wanted ≤ hashed_capacity new_table = omega (arith, hashed.reserved, files_live, len-within new_table) in
        let fourth : live + wanted ≤ ordered_capacity new_order = omega (arith, in_order, orders_live, lacks) in
        let all = least_of_four (live + wanted) _ _ _ _ first second third fourth in
        subst (λ n. n ≤ room is) meant (rw same_store (room_from _ live wanted all))

    pub ReservesInMemory-from_parts : ReservesInMemory additional was r is
    ReservesInMemory-from_parts = record {
      contents = rw (same_store, same_filed, ordered.contents);
      no_lower = record {
        slots = slots_stay;
        hashed = hashed_stays;
        cells = hashed.memory_stays;
        ordered = ordered.never_less;
      };
      reserved = reserved r refl;
      had_room = λ enough. absurd (omega (arith, enough, meant, lacks));
      few_slots =
          subst
          (λ n. new_items.capacity ≤ max items.capacity (max (live + n) (min items.store.limit (2 * items.capacity))))
          meant few;
      few_cells =
          let same : length (entries table) + wanted ≡ live + reservable additional was =
          omega (arith, counted, length-filed was.state paired, meant) in
          subst (λ n. hashed_cells new_table ≤ max (hashed_cells table) (most_cells n)) same hashed.few;
      few_blocks =
          subst (λ n. ordered_capacity new_order ≤ max (ordered_capacity order) (capacity_for (live + n))) meant
          (few_blocks ordered r refl);
    }

  -- memory ran out in one of the parts
  pub ReservesInMemory-failed :
      {E : Type 0} (error : E) (wanted : ℕ)
      → wanted ≡ reservable additional was
      → room was < wanted
      → new_items.store ≡ items.store
      → items.capacity ≤ new_items.capacity
      → new_items.capacity
      ≤ max items.capacity (max (live_count items.store + wanted) (min items.store.limit (2 * items.capacity)))
      → (filed new_table ≡ filed table)
      → (hashed_capacity table ≤ hashed_capacity new_table)
      → (hashed_cells new_table ≡ hashed_cells table)
      → new_order ≡ order
      → ReservesInMemory additional was (Err error) is
  ReservesInMemory-failed error wanted meant lacks same_store slots_stay few same_filed hashed cells ordered = record {
    contents = rw (same_store, same_filed, ordered) refl;
    no_lower = record {
      slots = slots_stay;
      hashed = hashed;
      cells = omega (arith, cells);
      ordered = rw ordered (omega arith);
    };
    reserved = tt;
    had_room = λ enough. absurd (omega (arith, enough, meant, lacks));
    few_slots = subst
        (λ n. new_items.capacity ≤ max items.capacity (max (live_count items.store + n) (min items.store.limit (2 * items.capacity))))
        meant few;
    few_cells = omega (arith, cells);
    few_blocks = rw ordered (omega arith);
  }

  -- ---- memory given back

  module _
      {E : Type 0} (r : Result (Unit {0}) E) (paired : IsPaired was.state) (same_store : new_items.store ≡ items.store)
      (slots_stay : min items.capacity (max additional (slot_count items.store)) ≤ new_items.capacity)
      (slots_fall : new_items.capacity ≤ items.capacity)
      (slots_fit : OnOk r (new_items.capacity ≡ min items.capacity (max additional (slot_count items.store))))
      (same_filed : filed new_table ≡ filed table)
      (hashed_stays :
      min (hashed_capacity table) (max additional (finite.len (filed table))) ≤ hashed_capacity new_table)
      (cells_fall : hashed_cells new_table ≤ hashed_cells table)
      (cells_fit : OnOk r (hashed_cells new_table ≤ most_cells (max additional (finite.len (filed table)))))
      (ordered : order_sizes.Shrinks additional order new_order) where
    abbrev kept : ℕ
    kept = min (capacity was) (max additional (live_count items.store))

    never_less : kept ≤ capacity is
    never_less =
        let first : kept ≤ new_items.capacity = omega (arith, slots_stay, paired.valid.counted) in
        let second : kept ≤ items.store.limit = omega arith in
        let third : kept ≤ hashed_capacity new_table = omega (arith, hashed_stays, length-filed was.state paired) in
        let fits = fits_blocks (max additional (length (order_of order))) in
        let fourth : kept ≤ ordered_capacity new_order = omega (arith, ordered.shrunk, fits, length-order was.state paired) in
        rw same_store (least_of_four kept _ _ _ _ first second third fourth)

    pub ShrinksInMemory-from_parts : ShrinksInMemory additional was r is
    ShrinksInMemory-from_parts = record {
      contents = rw (same_store, same_filed, ordered.contents);
      never_less = never_less;
      slots = slots_fit;
      cells = subst (λ n. OnOk r (hashed_cells new_table ≤ most_cells (max additional n))) (length-filed was.state paired) cells_fit;
      blocks =
          subst (λ n. ordered_capacity new_order ≡ min (ordered_capacity order) (capacity_for (max additional n)))
          (length-order was.state paired) ordered.shrunk;
      never_more = (slots_fall, cells_fall);
    }

-- ---- a collection that is made for so many items

pub record IsMadeWithin {T S : Type 0} (limit n : ℕ) (hasher : S) (k : SizedState T S) : Type 0 where
  pub state : k.state ≡ empty_state_within limit hasher
  pub has_room : n ≤ room k
  pub made : IsMadeFor n k.memory
  pub none : n ≡ 0 → k.memory ≡ no_memory

module _
    {T S : Type 0} (hasher : S) (items : SizedStore T) (table : Table ℕ) (order : Order) (limit wanted n : ℕ)
    (n_is : n ≡ min wanted limit) (contents : items.store ≡ empty_within limit) (slots : items.capacity ≡ n)
    (unfiled : filed table ≡ finite.empty) (roomy : n ≤ hashed_room table)
    (few : hashed_cells table ≤ hash_sizes.most_cells n) (bare : n ≡ 0 → HasNoMemory table)
    (empty : order_of order ≡ []) (blocks : ordered_capacity order ≡ capacity_for n)
    (fits : n ≤ ordered_capacity order)
  where
    pairs : length (entries table) ≡ 0
    pairs = length-entries_of_none table unfiled

    hashed : n ≤ hashed_capacity table
    hashed = omega (arith, pairs, roomy)

    all_fit : n ≤ min (min items.capacity limit) (min (hashed_capacity table) (ordered_capacity order)) - 0
    all_fit = omega (arith, n_is, slots, hashed, fits)

    nothing : n ≡ 0 → memory_of items table order ≡ no_memory
    nothing none =
        let held : hashed_capacity table ≡ 0 = omega (arith, pairs, (bare none).no_room) in
        rw (slots, held, (bare none).no_cell, blocks, none) refl

    pub IsMadeWithin-parts : IsMadeWithin limit (min wanted limit) hasher (sized_of hasher items table order)
    IsMadeWithin-parts = rw (← n_is, contents, unfiled, empty) (record {
      state = refl;
      has_room = all_fit;
      made = record { slots = slots; hashed = hashed; cells = few; ordered = blocks };
      none = nothing;
    })
