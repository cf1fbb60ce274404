-- What a removal leaves of a store and two tables: the parts of the state, and its memory.
use Rattle.std.proofs.Common.{◌≡◌, ◌↔◌, ◌+◌, ◌≤◌, ℕ, Option, Some, None, IsSome, refl}
use Rattle.std.specs.FinMap as finite
use Rattle.iddqd.specs.Store.{get, removed, live_count}
use Rattle.iddqd.specs.ItemSet.{SizedStore}
use Rattle.iddqd.proofs.LiveLemmas.{live_at}
use Rattle.iddqd_hash.specs.HashTable.{Table, KeepsMemory}
use Rattle.iddqd_hash.specs.MapHashTable.{filed}
use Rattle.iddqd_order.specs.MapBTreeTable.{Order, order_of, without, capacity as ordered_capacity}
use Rattle.iddqd_keys.specs.Scan.{IsLive}
use Rattle.iddqd_driver.specs.Keys.{Keys}
use Rattle.iddqd_driver.specs.State.{state_of, IsPaired}
use Rattle.iddqd_driver.specs.KeyIndexes.{Keeps}
use Rattle.iddqd_driver.specs.Machine.{Removes}
use Rattle.iddqd_driver.specs.Memory.{SizedState, memory_of, sized_of, capacity, room}
use Rattle.iddqd_driver.proofs.KeyLemmas.{AreLawful}
use Rattle.iddqd_driver.proofs.KeepsLemmas.{IsPaired-unbound, Keeps-unbound, Keeps-same}
use Rattle.iddqd_driver.proofs.CountLemmas.{count-removed}
use Rattle.iddqd_driver.proofs.MemoryLemmas.{room-removed}

-- what the removal of the item at an index leaves
pub record LeavesOthers
    {T S K1 K2 : Type 0} (keys : Keys T K1 K2 S) (old new : SizedState T S) (ix : ℕ) (item : T)
    : Type 0 where
  pub removes : Removes old.state ix (Some item) new.state
  pub live : IsLive old.state.store ix
  pub keeps : Keeps keys old.state new.state
  pub memory : new.memory ≡ old.memory
  pub room : live_count old.state.store ≤ capacity old → room new ≡ room old + 1
  pub count : live_count old.state.store ≡ live_count new.state.store + 1

-- what a removal that finds nothing leaves
pub record LeavesAll {T S K1 K2 : Type 0} (keys : Keys T K1 K2 S) (old new : SizedState T S) : Type 0 where
  pub state : new.state ≡ old.state
  pub keeps : Keeps keys old.state new.state
  pub memory : new.memory ≡ old.memory

module _
    {T S : Type 0} (hasher : S) (items : SizedStore T) (table : Table ℕ) (order : Order) (old : SizedState T S)
    (seen : sized_of hasher items table order ≡ old) (paired : IsPaired (state_of hasher items.store table order))
  where
    -- what was read at an index
    module _ (ix : ℕ) (item : Option T) (read : item ≡ get items.store ix) where
      pub none-removes : item ≡ None → Removes old.state ix None old.state
      none-removes none = (rw (← seen, ← read) none, refl)

      pub read-live : IsSome item ↔ IsLive old.state.store ix
      read-live = rw (← seen, ← read) (λ some. some, λ some. some)

    -- nothing was removed
    module _ (new_table : Table ℕ) (same : filed new_table ≡ filed table) where
      pub LeavesAll-filed :
          {K1 K2 : Type 0} (keys : Keys T K1 K2 S)
          → KeepsMemory table new_table
          → LeavesAll keys old (sized_of hasher items new_table order)
      LeavesAll-filed keys cells = record {
        state = rw (← seen, same) refl;
        keeps = rw (← seen, same) (Keeps-same keys _ paired _ refl);
        memory = rw (← seen, cells.same_capacity, cells.same_memory) refl;
      }

    pub LeavesAll-ordered :
        {K1 K2 : Type 0} (keys : Keys T K1 K2 S) (new_order : Order)
        → order_of new_order ≡ order_of order
        → ordered_capacity new_order ≡ ordered_capacity order
        → LeavesAll keys old (sized_of hasher items table new_order)
    LeavesAll-ordered keys new_order same held = record {
      state = rw (← seen, same) refl;
      keeps = rw (← seen, same) (Keeps-same keys _ paired _ refl);
      memory = rw (← seen, held) refl;
    }

    module _
        (new_items : SizedStore T) (new_table : Table ℕ) (new_order : Order) (ix : ℕ) (item : T)
        (live : get items.store ix ≡ Some item) (stored : new_items.store ≡ removed items.store ix)
        (hashed : filed new_table ≡ finite.remove (filed table) ix)
        (ordered : order_of new_order ≡ without (order_of order) ix)
      where
        pub removed-paired : IsPaired (state_of hasher new_items.store new_table new_order)
        removed-paired = rw (stored, hashed, ordered) (IsPaired-unbound _ paired ix item live)

        pub removed-removes : Removes old.state ix (Some item) (state_of hasher new_items.store new_table new_order)
        removed-removes = rw (← seen) (live, rw (stored, hashed, ordered) refl)

        pub removed-keeps :
            {K1 K2 : Type 0} (keys : Keys T K1 K2 S)
            → AreLawful keys
            → Keeps keys old.state (state_of hasher new_items.store new_table new_order)
        removed-keeps keys lawful =
            rw (← seen, stored, hashed, ordered) (Keeps-unbound keys _ paired lawful ix item live)

        pub removed-count : live_count old.state.store ≡ live_count new_items.store + 1
        removed-count =
            rw (← seen)
            (count-removed (state_of hasher items.store table order) (state_of hasher new_items.store new_table new_order) paired ix item live (rw (stored, hashed, ordered) refl))

        module _
            (slots : new_items.capacity ≡ items.capacity) (cells : KeepsMemory table new_table)
            (room_ordered : ordered_capacity new_order ≡ ordered_capacity order)
          where
            same_memory : memory_of new_items new_table new_order ≡ memory_of items table order
            same_memory = rw (slots, cells.same_capacity, cells.same_memory, room_ordered) refl

            pub removed-memory : memory_of new_items new_table new_order ≡ old.memory
            removed-memory = rw (← seen) same_memory

            pub removed-room :
                live_count old.state.store ≤ capacity old
                → room (sized_of hasher new_items new_table new_order) ≡ room old + 1
            removed-room =
                rw (← seen)
                (room-removed (sized_of hasher items table order) (sized_of hasher new_items new_table new_order) paired ix (Some item) (live, rw (stored, hashed, ordered) refl) same_memory)

            pub LeavesOthers-removed :
                {K1 K2 : Type 0} (keys : Keys T K1 K2 S)
                → AreLawful keys
                → LeavesOthers keys old (sized_of hasher new_items new_table new_order) ix item
            LeavesOthers-removed keys lawful = record {
              removes = removed-removes;
              live = live_at old.state.store ix item removed-removes.0;
              keeps = removed-keeps keys lawful;
              memory = removed-memory;
              room = removed-room;
              count = removed-count;
            }
