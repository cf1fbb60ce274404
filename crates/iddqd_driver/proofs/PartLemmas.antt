-- What an insert, a compaction, a clearing and an overwriting leave of a collection, from what they leave of its parts.
use Rattle.std.proofs.Common.{◌≡◌, ◌≤◌, ◌+◌, ℕ, [], map, Option, Some, Result, IfOk, IfErr, OnOk, OnErr, refl, subst}
use Rattle.std.specs.FinMap as finite
use Rattle.iddqd.specs.Store.{get, live_count, next_index, cleared, rebound}
use Rattle.iddqd.specs.Compaction.{compacted, rank}
use Rattle.iddqd.specs.ItemSet.{SizedStore}
use Rattle.iddqd.proofs.LiveCountLemmas.{live_count-rebound}
use Rattle.iddqd_hash.specs.HashTable.{Table, KeepsMemory}
use Rattle.iddqd_hash.specs.MapHashTable.{filed, Renames}
use Rattle.iddqd_order.specs.MapBTreeTable.{Order, order_of, capacity as ordered_capacity}
use Rattle.iddqd_driver.specs.Keys.{Keys}
use Rattle.iddqd_driver.specs.KeyIndexes.{first_key_index, second_key_index, finds_reported, hash_in, LooksUp, Keeps, KeepsUnlessChanged}
use Rattle.iddqd_driver.specs.Machine.{Refuses, Inserts, ReportsAsScan, StoresAt}
use Rattle.iddqd_driver.specs.State.{State, state_of, cleared_state, Compacts, IsPaired}
use Rattle.iddqd_driver.specs.Memory.{SizedState, memory_of, sized_of, room, InsertsInMemory, IsDuplicate, TakesForOne}
use Rattle.iddqd_driver.specs.Parts.{InsertsParts}
use Rattle.iddqd_driver.specs.declared.keyed_items.InsertRefusal.{InsertRefusal}
use Rattle.iddqd_driver.proofs.CountLemmas.{count-inserted, IsDuplicate-with_room}
use Rattle.iddqd_driver.proofs.InsertLemmas.{StoresAt-from_parts, same-from_parts, Keeps-from_stored}
use Rattle.iddqd_driver.proofs.KeyLemmas.{AreLawful}
use Rattle.iddqd_driver.proofs.MemoryLemmas.{HasRoomInParts-from_room, InsertsInMemory-where, few_for_live, room-inserted}
use Rattle.iddqd_driver.proofs.KeepsLemmas.{Keeps-cleared, Keeps-compacted, KeepsUnlessChanged-rebound}

module _ {T S K1 K2 : Type 0} (keys : Keys T K1 K2 S) (old new : SizedState T S) where
  pub record LeavesCompacted : Type 0 where
    pub compacts : Compacts old.state new.state
    pub keeps : Keeps keys old.state new.state
    pub memory : new.memory ≡ old.memory

  pub record LeavesCleared : Type 0 where
    pub cleared : new.state ≡ cleared_state old.state
    pub keeps : Keeps keys old.state new.state
    pub memory : new.memory ≡ old.memory

  pub record LeavesOverwritten (ix : ℕ) (item was : T) : Type 0 where
    pub live : get old.state.store ix ≡ Some was
    pub state : new.state ≡ record old.state { store = rebound old.state.store ix item }
    pub keeps : KeepsUnlessChanged keys old.state ix item new.state
    pub memory : new.memory ≡ old.memory
    pub count : live_count new.state.store ≡ live_count old.state.store

module _
    {T S K1 K2 : Type 0} (keys : Keys T K1 K2 S) (hasher : S) (items : SizedStore T) (table : Table ℕ) (order : Order)
    (old : SizedState T S) (seen : sized_of hasher items table order ≡ old)
    (paired : IsPaired (state_of hasher items.store table order)) (new_items : SizedStore T)
  where
    module _
        (new_table : Table ℕ) (new_order : Order) (slots : new_items.capacity ≡ items.capacity)
        (cells : KeepsMemory table new_table) (ordered : ordered_capacity new_order ≡ ordered_capacity order)
      where
        pub LeavesCompacted-parts :
            AreLawful keys
            → new_items.store ≡ compacted items.store
            → Renames (rank items.store) (filed table) (filed new_table)
            → order_of new_order ≡ map (rank items.store) (order_of order)
            → LeavesCompacted keys old (sized_of hasher new_items new_table new_order)
        LeavesCompacted-parts lawful stored named listed =
            rw (← seen, stored, listed, slots, cells.same_capacity, cells.same_memory, ordered) (record {
              compacts = record { filed = named; state = refl };
              keeps = Keeps-compacted _ _ paired lawful _ named;
              memory = refl;
            })

        pub LeavesCleared-parts :
            new_items.store ≡ cleared items.store
            → filed new_table ≡ finite.empty
            → order_of new_order ≡ []
            → LeavesCleared keys old (sized_of hasher new_items new_table new_order)
        LeavesCleared-parts stored unfiled none =
            rw (← seen, stored, unfiled, none, slots, cells.same_capacity, cells.same_memory, ordered)
            (record { cleared = refl; keeps = Keeps-cleared _ _ paired; memory = refl })

    pub LeavesOverwritten-parts :
        AreLawful keys
        → (ix : ℕ) (item was : T)
        → get items.store ix ≡ Some was
        → new_items ≡ record items { store = rebound items.store ix item }
        → LeavesOverwritten keys old (sized_of hasher new_items table order) ix item was
    LeavesOverwritten-parts lawful ix item was live is =
        rw (← seen, is) (record {
          live = live;
          state = refl;
          keeps = KeepsUnlessChanged-rebound _ _ paired lawful ix item was live;
          memory = refl;
          count = live_count-rebound _ ix item was paired.valid live;
        })

-- ---- an insert

pub record LeavesInserted
    {T S K1 K2 : Type 0} (keys : Keys T K1 K2 S) (old : SizedState T S) (item : T) (r : Result ℕ (InsertRefusal T))
    (new : SizedState T S)
    : Type 0 where
  pub inserts : Inserts keys old.state item r new.state
  pub tells : ReportsAsScan keys old.state item r
  pub keeps : Keeps keys old.state new.state
  pub memory : InsertsInMemory (1 ≤ room old) old.memory r new.memory
  pub few : TakesForOne old.state.store.limit (live_count old.state.store) old.memory new.memory
  pub has_room : OnOk r (1 ≤ room old → room old ≡ room new + 1)
  pub not_refused : 1 ≤ room old → IfErr r IsDuplicate
  pub count : OnOk r (live_count new.state.store ≡ live_count old.state.store + 1)

module _
    {T S K1 K2 : Type 0} (keys : Keys T K1 K2 S) (hasher : S) (items : SizedStore T) (table : Table ℕ) (order : Order)
    (old : SizedState T S) (seen : sized_of hasher items table order ≡ old)
    (paired : IsPaired (state_of hasher items.store table order)) (lawful : AreLawful keys) (item : T) (key : K1)
    (is : key ≡ keys.first item) (hash : ℕ) (found : Option ℕ) (hashed : hash ≡ hash_in keys old.state key)
    (looked : LooksUp (first_key_index keys) old.state key found) (new_items : SizedStore T) (new_table : Table ℕ)
    (new_order : Order) (r : Result ℕ (InsertRefusal T)) (reported : (finds_reported r).0 ≡ found)
    (second :
    LooksUp (second_key_index keys) (state_of hasher items.store table order) (keys.second item) (finds_reported r).1)
    (refused : IfErr r (Refuses items.store item))
    (parts : InsertsParts keys.second keys.compare_second item hash items table order r new_items new_table new_order)
  where
    abbrev s : State T S
    s = state_of hasher items.store table order

    abbrev left : State T S
    left = state_of hasher new_items.store new_table new_order

    first : LooksUp (first_key_index keys) s (keys.first item) (finds_reported r).0
    first = rw reported (rw (← seen, is) at looked)

    entered :
        OnOk r (filed new_table ≡ finite.insert (filed table) (next_index items.store) (hash_in keys s (keys.first item)))
    entered =
        subst (λ h. OnOk r (filed new_table ≡ finite.insert (filed table) (next_index items.store) h)) (rw (← seen, is) at hashed) parts.entered

    stored : IfOk r (λ ix. StoresAt keys s item ix left)
    stored = StoresAt-from_parts keys s item _ _ _ r parts.not_full parts.index parts.stored entered parts.placed

    unchanged : OnErr r (left ≡ s)
    unchanged = same-from_parts keys s item _ _ _ r parts.items_stay parts.hashes_stay parts.order_stays

    memory :
        InsertsInMemory (1 ≤ room (sized_of hasher items table order)) (memory_of items table order) r
        (memory_of new_items new_table new_order)
    memory = InsertsInMemory-where (HasRoomInParts-from_room hasher items table order paired) parts.memory

    pub LeavesInserted-parts : LeavesInserted keys old item r (sized_of hasher new_items new_table new_order)
    LeavesInserted-parts = rw (← seen) (record {
      inserts = record { first = first.found; second = second.found; stored = stored; refused = refused; unchanged = unchanged };
      tells = record { first = first.as_scan; second = second.as_scan };
      keeps = Keeps-from_stored keys s item _ _ _ lawful paired r first second stored parts.placed unchanged;
      memory = memory;
      few = record { slots = parts.few_slots; cells = few_for_live s paired _ _ parts.few_cells };
      has_room = room-inserted (sized_of hasher items table order) (sized_of hasher new_items new_table new_order) paired keys item r stored memory;
      not_refused = IsDuplicate-with_room (sized_of hasher items table order) _ paired item r refused memory;
      count = count-inserted s left paired keys item r stored;
    })
