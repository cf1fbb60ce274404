-- What the functions on a layer answer and leave. Its hash tables file each index under its mixed hash, and no two
-- hashes are mixed alike.
use Rattle.std.specs.Prelude.{◌≡◌, ◌≢◌, ◌⊎◌, ◌<◌, ◌≤◌, ◌++◌, ℕ, List, Option, Some, None, filter, is_some, map, drop, take, length, max, min, slice_get, slice_index_or}
use Rattle.std.specs.List.Sorted.{IsPermutation}
use Rattle.iddqd.specs.Compaction.{compacted, numbers, rank}
use Rattle.iddqd.specs.Sizes.{insertable}
use Rattle.iddqd.specs.Store.{IsFull, Store, get, cleared, empty, inserted, live_count, next_index, removed, sentinel, slot_count}
use Rattle.iddqd_hash.specs.HashTable.{Table}
use Rattle.iddqd_hash.specs.MapHashTable.{filed, indexes_under}
use Rattle.iddqd_order.specs.Buffers.{Fills}
use Rattle.iddqd_keys.specs.Scan.{IsLive}
use Rattle.iddqd_layer.specs.Layer.{Layer, Each, EachBy, ForgetsHashed, ForgetsOrdered, HasFewCells, HasSameContents, IsCopy, IsFiled, IsPlaced, IsRefiled, IsTakenOut, IsUnfiled, LeadsToGap, RenamesHashed, RenamesOrdered, ShrinksOrdered, hashed_of, most_keys, ordered_of, room, slot_capacity, store_of}
use Rattle.iddqd_layer.specs.declared.way.Way.{Way}
use Rattle.iddqd_codes.specs.declared.TheConstants.{OK, MISSING, FULL, MEMORY, HANDLE, SMALL, COUNT, KEY, WAY}
use Rattle.iddqd_c.specs.Compacting.{FillsNewIndexes}
use Rattle.iddqd_c.specs.Held.{HoldsLayer}
use Rattle.iddqd_c.specs.Mixing.{mixed}
use Rattle.iddqd_c.specs.declared.table.Table.{Table as Held}

-- an empty layer with this many keys of each kind
pub record IsNewLayer (hashed ordered : ℕ) (l : Layer) : Type 0 where
  pub store : store_of l ≡ empty
  pub hashed_keys : length (hashed_of l) ≡ hashed
  pub ordered_keys : length (ordered_of l) ≡ ordered

-- at most sixteen keys of each kind
abbrev pub AreFew : ℕ → ℕ → Type 0
AreFew hashed ordered = (hashed ≤ most_keys) × (ordered ≤ most_keys)

-- a count, which this measures
abbrev pub Counts : (Layer → ℕ) → ℕ → ℕ → Layer → Type 0
Counts measure code count l = (code ≡ OK) × (count ≡ measure l)

-- how many indexes are live, and how many slots there are
abbrev pub live_indexes : Layer → ℕ
live_indexes l = live_count (store_of l)

abbrev pub slots_of : Layer → ℕ
slots_of l = slot_count (store_of l)

-- whether an index is live
abbrev pub SaysLive : ℕ → ℕ → Layer → Type 0
SaysLive ix code l =
    ((code ≡ OK) × IsLive (store_of l) ix) ⊎ ((code ≡ MISSING) × (IsLive (store_of l) ix → ⊥))

-- the live indexes that are at least `from`, by number
abbrev pub live_from : ℕ → Store (Unit {0}) → List ℕ
live_from from s = filter (λ ix. is_some (get s ix)) (drop from (numbers (slot_count s)))

-- the first of these stand in a buffer, as many as it has places for
abbrev pub ListsLive : ℕ → ℕ → ℕ → List ℕ → List ℕ → Layer → Type 0
ListsLive from code count was indexes l = (code ≡ OK) × Fills (live_from from (store_of l)) count was indexes

-- a function on the table of a key, if there is one; otherwise the code is `KEY`
abbrev pub OfKey : {T : Type 0} → (T → Type 0) → ℕ → Option T → Type 0
OfKey P code (Some table) = P table
OfKey P code None = code ≡ KEY

abbrev pub ReadsHashed : (Table ℕ → Type 0) → ℕ → ℕ → Layer → Type 0
ReadsHashed P key code l = OfKey P code (slice_get (hashed_of l) key)

-- The indexes under a hash: how many there are, and in the buffer as many of them as it has places for, each once. The
-- places behind them stay as they were.
pub record ListsIndexes (hash code count : ℕ) (was indexes : List ℕ) (table : Table ℕ) : Type 0 where
  pub done : code ≡ OK
  pub found : List ℕ
  pub each_once : IsPermutation (indexes_under (mixed hash) (filed table)) found
  pub counted : count ≡ length found
  pub filled : indexes ≡ take (length was) found ++ drop (length found) was

-- as many hashes as hashed keys, and as many ways as ordered keys
abbrev pub FitKeys : List ℕ → List Way → Layer → Type 0
FitKeys hashes ways l = (length hashes ≡ length (hashed_of l)) × (length ways ≡ length (ordered_of l))

-- the next index is live, and stands in each hash table under its hash, and in each ordered table at the gap of its way
pub record IsInserted (hashes : List ℕ) (ways : List Way) (index : ℕ) (old new : Layer) : Type 0 where
  pub fit : FitKeys hashes ways old
  pub led : Each LeadsToGap (ordered_of old) ways
  pub is_next : index ≡ next_index (store_of old)
  pub assigned : index ≢ sentinel
  pub stored : store_of new ≡ inserted (store_of old) tt
  pub hashed : EachBy (IsFiled index) (map mixed hashes) (hashed_of old) (hashed_of new)
  pub ordered : EachBy (IsPlaced index) ways (ordered_of old) (ordered_of new)

-- Why no index was inserted. More than sixteen hashes aren't compared with the number of keys: no layer has as many.
abbrev pub RefusesInsert : List ℕ → List Way → ℕ → Layer → Type 0
RefusesInsert hashes ways code old =
    ((code ≡ COUNT) × (FitKeys hashes ways old → most_keys < length hashes))
    ⊎ ((code ≡ WAY) × (Each LeadsToGap (ordered_of old) ways → ⊥))
    ⊎ ((code ≡ FULL) × IsFull (store_of old))
    ⊎ ((code ≡ MEMORY) × (room old ≡ 0))

-- an insert: done, or refused, and then each table has what it had, and each way leads where it led
abbrev pub InsertsIndex : List ℕ → List Way → ℕ → ℕ → Layer → Layer → Type 0
InsertsIndex hashes ways code index old new =
    ((code ≡ OK) × IsInserted hashes ways index old new)
    ⊎ (RefusesInsert hashes ways code old × HasSameContents old new)

-- an index that was live isn't any more, and has left each table
pub record IsRemoved (ix : ℕ) (old new : Layer) : Type 0 where
  pub live : IsLive (store_of old) ix
  pub stored : store_of new ≡ removed (store_of old) ix
  pub hashed : Each (IsUnfiled ix) (hashed_of old) (hashed_of new)
  pub ordered : Each (IsTakenOut ix) (ordered_of old) (ordered_of new)

-- a removal: done; or the index isn't live, and nothing changes
abbrev pub RemovesIndex : ℕ → ℕ → Layer → Layer → Type 0
RemovesIndex ix code old new =
    ((code ≡ OK) × IsRemoved ix old new) ⊎ ((code ≡ MISSING) × (IsLive (store_of old) ix → ⊥) × (new ≡ old))

-- an index is under another hash in the table of one hashed key, and nothing else changed
pub record IsRehashed (ix key hash : ℕ) (old new : Layer) : Type 0 where
  pub live : IsLive (store_of old) ix
  pub within : key < length (hashed_of old)
  pub store : store_of new ≡ store_of old
  pub filed : (t : Table ℕ) → IsRefiled ix (mixed hash) (slice_index_or (hashed_of old) key t)
      (slice_index_or (hashed_of new) key t)
  pub others : (k : ℕ) (t : Table ℕ) → k ≢ key →
      slice_index_or (hashed_of new) k t ≡ slice_index_or (hashed_of old) k t
  pub ordered : ordered_of new ≡ ordered_of old

-- another hash for an index: done; or there is no such key, or the index isn't live, and nothing changes
abbrev pub Rehashes : ℕ → ℕ → ℕ → ℕ → Layer → Layer → Type 0
Rehashes ix key hash code old new =
    ((code ≡ OK) × IsRehashed ix key hash old new)
    ⊎ ((code ≡ KEY) × (length (hashed_of old) ≤ key) × (new ≡ old))
    ⊎ ((code ≡ MISSING) × (key < length (hashed_of old)) × (IsLive (store_of old) ix → ⊥) × (new ≡ old))

-- room for more indexes, or memory ran out; each table has what it had, and each way leads where it led
abbrev pub ReservesIndexes : ℕ → ℕ → Layer → Layer → Type 0
ReservesIndexes additional code old new =
    HasSameContents old new
    × (((code ≡ OK) × (min additional (insertable (store_of old)) ≤ room new))
    ⊎ ((code ≡ MEMORY) × (room old < additional)))

-- the memory of the slots and of the hash tables is no more than their contents or `least` indexes need
pub record HasShrunk (least : ℕ) (old new : Layer) : Type 0 where
  pub slots : slot_capacity new ≡ min (slot_capacity old) (max least (slot_count (store_of old)))
  pub hashed : Each (HasFewCells least) (hashed_of old) (hashed_of new)

-- memory that was given back, or there was none for the smaller tables; each table has what it had
abbrev pub ShrinksLayer : ℕ → ℕ → Layer → Layer → Type 0
ShrinksLayer least code old new =
    HasSameContents old new × Each (ShrinksOrdered least) (ordered_of old) (ordered_of new)
    × (((code ≡ OK) × HasShrunk least old new) ⊎ (code ≡ MEMORY))

-- a clear: no index and no slot is left
abbrev pub ClearsLayer : ℕ → Layer → Layer → Type 0
ClearsLayer code old new =
    (code ≡ OK) × (store_of new ≡ cleared (store_of old)) × Each ForgetsHashed (hashed_of old) (hashed_of new)
    × Each ForgetsOrdered (ordered_of old) (ordered_of new)

-- a copy in another handle, which was zero; or memory ran out, or the other handle isn't zero
abbrev pub CopiesLayer : ℕ → ℕ → Option Held → Layer → Type 0
CopiesLayer code state after l =
    ((code ≡ OK) × (state ≡ 0) × HoldsLayer (IsCopy l) after)
    ⊎ ((code ≡ MEMORY) × (state ≡ 0))
    ⊎ ((code ≡ HANDLE) × (state ≢ 0))

-- each live index has its rank as its new name in the store and in each table
pub record IsCompacted (old new : Layer) : Type 0 where
  pub store : store_of new ≡ compacted (store_of old)
  pub hashed : Each (RenamesHashed (rank (store_of old))) (hashed_of old) (hashed_of new)
  pub ordered : Each (RenamesOrdered (rank (store_of old))) (ordered_of old) (ordered_of new)

-- What a compaction answers and leaves, by its code. At `SMALL` the buffer has fewer places than there are slots.
abbrev pub CompactsLayer : ℕ → ℕ → List ℕ → List ℕ → Layer → Layer → Type 0
CompactsLayer code count was indexes old new =
    let slots = slot_count (store_of old) in
    ((code ≡ OK) × (slots ≤ length was) × (count ≡ slots) × FillsNewIndexes (store_of old) was indexes
    × IsCompacted old new)
    ⊎ ((code ≡ SMALL) × (length was < slots) × (count ≡ slots) × (new ≡ old))
    ⊎ ((code ≡ MEMORY) × (slots ≤ length was) × (new ≡ old))
