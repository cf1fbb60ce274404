-- What an insert leaves of a store and two tables.
use Rattle.std.specs.Prelude.{◌≡◌, ◌≤◌, ◌+◌, ◌*◌, ℕ, Result, IsOk, IfOk, OnOk, OnErr, max, min}
use Rattle.std.specs.FinMap as finite
use Rattle.std.specs.declared.cmp.Ordering.{Ordering}
use Rattle.iddqd.specs.ItemSet.{SizedStore}
use Rattle.iddqd.specs.Store.{IsFull, inserted, live_count, next_index}
use Rattle.iddqd_hash.specs.HashTable.{Table, memory as cells}
use Rattle.iddqd_hash.specs.MapHashTable.{filed}
use Rattle.iddqd_hash.specs.Sizes.{most_cells}
use Rattle.iddqd_order.specs.MapBTreeTable.{Order, order_of}
use Rattle.iddqd_by_order.specs.Ordered.{AddsInPlace}
use Rattle.iddqd_driver.specs.Memory.{InsertsInParts}
use Rattle.iddqd_driver.specs.declared.keyed_items.InsertRefusal.{InsertRefusal}

-- At Ok the item is at the next index, which is filed under the hash, and stands in the order where its second key
-- belongs. A refusal changes none of the three, except their memory.
pub record InsertsParts
    {T K : Type 0} (key_of : T → K) (compare : K → K → Ordering) (item : T) (hash : ℕ) (items : SizedStore T)
    (table : Table ℕ) (order : Order) (result : Result ℕ (InsertRefusal T)) (new_items : SizedStore T)
    (new_table : Table ℕ) (new_order : Order)
    : Type 0 where
  pub not_full : IsOk result → IsFull items.store → ⊥
  pub index : IfOk result (λ ix. ix ≡ next_index items.store)
  pub stored : OnOk result (new_items.store ≡ inserted items.store item)
  pub entered : OnOk result (filed new_table ≡ finite.insert (filed table) (next_index items.store) hash)
  pub placed : OnOk result (AddsInPlace key_of compare items.store item (order_of order) (order_of new_order))
  pub items_stay : OnErr result (new_items.store ≡ items.store)
  pub hashes_stay : OnErr result (filed new_table ≡ filed table)
  pub order_stays : OnErr result (order_of new_order ≡ order_of order)
  pub memory : InsertsInParts items table order result new_items new_table new_order
  pub few_slots : new_items.capacity ≤ max items.capacity (min items.store.limit (max 4 (2 * live_count items.store)))
  pub few_cells : cells new_table ≤ max (cells table) (most_cells (finite.len (filed table) + 1))
