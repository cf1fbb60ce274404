-- What a contract sees of a layer: a store of indexes without items, and for each key a table of them.
use Rattle.std.specs.Prelude.{◌≡◌, ◌<◌, ◌≤◌, ◌+◌, ◌-◌, ℕ, List, [], length, insert, map, max, min, slice_index, slice_index_or}
use Rattle.std.specs.List.{AllZip, fold}
use Rattle.std.specs.FinMap as finite
use Rattle.iddqd.specs.ItemSet.{SizedStore}
use Rattle.iddqd.specs.ItemSet as slots
use Rattle.iddqd.specs.Store.{Store, IsValid}
use Rattle.iddqd_hash.specs.HashTable.{Table}
use Rattle.iddqd_hash.specs.HashTable as hash_table
use Rattle.iddqd_hash.specs.MapHashTable.{filed, Renames}
use Rattle.iddqd_hash.specs.Sizes.{most_cells}
use Rattle.iddqd_order.specs.MapBTreeTable.{Order, order_of, without, HasSameTree}
use Rattle.iddqd_order.specs.MapBTreeTable as order_table
use Rattle.iddqd_order.specs.Sizes as order_sizes
use Rattle.iddqd_order.specs.Stepping.{HasGap, gap_behind, node_by}
use Rattle.iddqd_order.specs.declared.btree_table.stepping.Descent.{Descent}
use Rattle.iddqd_by_hash.specs.Hashed as by_hash
use Rattle.iddqd_by_order.specs.Ordered as by_order
use Rattle.iddqd_layer.specs.declared.way.Way.{Way}

-- The store, whose items have no fields, with how many slots its memory holds; the table of each hashed key, and that
-- of each ordered key. Callers read it by the functions below.
pub record Layer : Type 0 where
  pub slots : SizedStore (Unit {0})
  pub hashed : List (Table ℕ)
  pub ordered : List Order

-- which indexes are live, and which come next
abbrev pub store_of : Layer → Store (Unit {0})
store_of l = l.slots.store

-- for how many slots there is memory
abbrev pub slot_capacity : Layer → ℕ
slot_capacity l = l.slots.capacity

-- the tables of the hashed keys, and those of the ordered keys
abbrev pub hashed_of : Layer → List (Table ℕ)
hashed_of l = l.hashed

abbrev pub ordered_of : Layer → List Order
ordered_of l = l.ordered

-- P holds of the members of two lists at each place
pub record Each {A B : Type 0} (P : A → B → Type 0) (xs : List A) (ys : List B) : Type 0 where
  pub long : length ys ≡ length xs
  pub at : (k : ℕ) (a : A) (b : B) → k < length xs → P (slice_index_or xs k a) (slice_index_or ys k b)

-- the same, with a member of a third list
pub record EachBy {A B C : Type 0} (P : C → A → B → Type 0) (by : List C) (xs : List A) (ys : List B) : Type 0 where
  pub long : length ys ≡ length xs
  pub at : (k : ℕ) (c : C) (a : A) (b : B) → k < length xs →
      P (slice_index_or by k c) (slice_index_or xs k a) (slice_index_or ys k b)

-- each table has each live index exactly once, and no other
pub record IsPaired (l : Layer) : Type 0 where
  pub valid : IsValid (store_of l)
  pub hashed : (k : ℕ) (t : Table ℕ) → k < length (hashed_of l) →
      by_hash.Holds (store_of l) (filed (slice_index_or (hashed_of l) k t))
  pub ordered : (k : ℕ) (t : Order) → k < length (ordered_of l) →
      by_order.Holds (store_of l) (order_of (slice_index_or (ordered_of l) k t))

-- the node to which a way leads
abbrev pub descent_of : Way → Descent
descent_of way = node_by way.places way.level

-- the way leads to a gap of a leaf of the table
abbrev pub LeadsToGap : Order → Way → Type 0
LeadsToGap t way = HasGap t (descent_of way) (slice_index way.places 0)

-- how many indexes stand before that gap
abbrev pub gap_at : Order → Way → ℕ
gap_at t way = gap_behind t (descent_of way) (slice_index way.places 0)

-- the hash table has the index under this hash too, and is otherwise as it was
abbrev pub IsFiled : ℕ → ℕ → Table ℕ → Table ℕ → Type 0
IsFiled ix hash old new = filed new ≡ finite.insert (filed old) ix hash

-- the ordered table has the index at the gap of the way too, and is otherwise as it was
pub record IsPlaced (ix : ℕ) (way : Way) (old new : Order) : Type 0 where
  pub within : gap_at old way ≤ length (order_of old)
  pub placed : order_of new ≡ insert (order_of old) (gap_at old way) ix

-- the index is under this hash in place of the one that it was under, and nothing else changed
abbrev pub IsRefiled : ℕ → ℕ → Table ℕ → Table ℕ → Type 0
IsRefiled ix hash old new = filed new ≡ finite.insert (finite.remove (filed old) ix) ix hash

-- the index has left the table, which is otherwise as it was
abbrev pub IsUnfiled : ℕ → Table ℕ → Table ℕ → Type 0
IsUnfiled ix old new = filed new ≡ finite.remove (filed old) ix

abbrev pub IsTakenOut : ℕ → Order → Order → Type 0
IsTakenOut ix old new = order_of new ≡ without (order_of old) ix

-- the table has the same indexes under the same hashes
abbrev pub SameFiled : Table ℕ → Table ℕ → Type 0
SameFiled old new = filed new ≡ filed old

-- the table has no index any more
abbrev pub ForgetsHashed : Table ℕ → Table ℕ → Type 0
ForgetsHashed old new = filed new ≡ finite.empty

abbrev pub ForgetsOrdered : Order → Order → Type 0
ForgetsOrdered old new = order_of new ≡ []

-- each index has its new name, and nothing else changed
abbrev pub RenamesHashed : (ℕ → ℕ) → Table ℕ → Table ℕ → Type 0
RenamesHashed name old new = Renames name (filed old) (filed new)

abbrev pub RenamesOrdered : (ℕ → ℕ) → Order → Order → Type 0
RenamesOrdered name old new = order_of new ≡ map name (order_of old)

-- the table can hold as many indexes as before
abbrev pub SameCapacity : Order → Order → Type 0
SameCapacity old new = order_table.capacity new ≡ order_table.capacity old

-- it can hold no fewer than before
abbrev pub KeepsCapacity : Order → Order → Type 0
KeepsCapacity old new = order_table.capacity old ≤ order_table.capacity new

-- the table, which was the old one, has room for this many more indexes
abbrev pub HasHashRoom : ℕ → Table ℕ → Table ℕ → Type 0
HasHashRoom additional old new = additional ≤ hash_table.room new

abbrev pub HasOrderRoom : ℕ → Order → Order → Type 0
HasOrderRoom additional old new = additional ≤ order_table.room new

-- it has room for no fewer indexes, for one fewer, or for one more
abbrev pub KeepsHashRoom : Table ℕ → Table ℕ → Type 0
KeepsHashRoom old new = hash_table.room old ≤ hash_table.room new

abbrev pub UsesHashRoom : Table ℕ → Table ℕ → Type 0
UsesHashRoom old new = hash_table.room old ≡ hash_table.room new + 1

abbrev pub FreesHashRoom : Table ℕ → Table ℕ → Type 0
FreesHashRoom old new = hash_table.room new ≡ hash_table.room old + 1

-- the table has no more cells than its indexes or `least` of them need
abbrev pub HasFewCells : ℕ → Table ℕ → Table ℕ → Type 0
HasFewCells least old new = hash_table.memory new ≤ most_cells (max least (finite.len (filed old)))

-- its room for so many indexes as make `least` with those that there are stayed, if it was there
abbrev pub KeepsHashRoomTo : ℕ → Table ℕ → Table ℕ → Type 0
KeepsHashRoomTo least old new = min (hash_table.room old) (least - finite.len (filed old)) ≤ hash_table.room new

-- the table keeps its tree, and no more capacity than its indexes or `least` of them need
abbrev pub ShrinksOrdered : ℕ → Order → Order → Type 0
ShrinksOrdered least old new = order_sizes.Shrinks least old new

-- the least of what f gives for the members of a list, or `start` if that is less
abbrev pub least_of : {A : Type 0} → (A → ℕ) → ℕ → List A → ℕ
least_of f start xs = fold (λ least x. min least (f x)) start xs

-- how many inserts need no memory: as many as the store and each table have room for
abbrev pub room : Layer → ℕ
room l = least_of hash_table.room (least_of order_table.room (slots.room l.slots) l.ordered) l.hashed

-- no ordered table has more indexes than its capacity
abbrev pub FitsItsMemory : Layer → Type 0
FitsItsMemory l = (k : ℕ) (t : Order) → k < length l.ordered →
    length (order_of (slice_index_or l.ordered k t)) ≤ order_table.capacity (slice_index_or l.ordered k t)

-- the most keys of one kind
abbrev pub most_keys : ℕ
most_keys = 16

-- the table has the same indexes in the same order
abbrev pub SameOrder : Order → Order → Type 0
SameOrder old new = order_of new ≡ order_of old

-- a copy has the same live indexes and slots, and the same indexes in each table
pub record IsCopy (l copy : Layer) : Type 0 where
  pub store : store_of copy ≡ store_of l
  pub hashed : AllZip SameFiled (hashed_of l) (hashed_of copy)
  pub ordered : AllZip SameOrder (ordered_of l) (ordered_of copy)

-- two layers have the same indexes in each table, and each way leads where it led, whatever memory they have
pub record HasSameContents (old new : Layer) : Type 0 where
  pub store : store_of new ≡ store_of old
  pub hashed : Each SameFiled (hashed_of old) (hashed_of new)
  pub ordered : Each HasSameTree (ordered_of old) (ordered_of new)
