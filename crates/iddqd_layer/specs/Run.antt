-- What each call that changes a layer may return and leave, and what holds along lists of such calls.
use Rattle.std.specs.Prelude.{◌≡◌, ◌≢◌, ◌↔◌, ◌+◌, ◌<◌, ◌≤◌, ℕ, List, [], ◌∷◌, All, Bool, true, false, Result, Ok, Err, IfOk, OnOk, OnErr, IsTrue, length, max, min, slice_index_or, count_by}
use Rattle.iddqd.specs.Compaction.{IsRemapOf, compacted, rank}
use Rattle.iddqd.specs.Sizes.{insertable}
use Rattle.iddqd.specs.Store.{IsFull, cleared, inserted, next_index, removed, slot_count}
use Rattle.iddqd_hash.specs.HashTable.{Table}
use Rattle.iddqd_keys.specs.Scan.{IsLive}
use Rattle.iddqd_layer.specs.Layer.{Layer, Each, EachBy, FitsItsMemory, ForgetsHashed, ForgetsOrdered, HasFewCells, HasSameContents, IsFiled, IsPaired, IsPlaced, IsRefiled, IsTakenOut, IsUnfiled, LeadsToGap, RenamesHashed, RenamesOrdered, ShrinksOrdered, hashed_of, ordered_of, room, slot_capacity, store_of}
use Rattle.iddqd_layer.specs.declared.refusal.Refusal.{Refusal}
use Rattle.iddqd_layer.specs.declared.refusal.Refusal.TheVariants as why
use Rattle.iddqd_layer.specs.declared.run.Command.{Command}
use Rattle.iddqd_layer.specs.declared.run.Command.TheVariants.{Reserve, Insert, Remove, Rehash, ShrinkTo, Clear, Compact}
use Rattle.iddqd_layer.specs.declared.run.Reply.{Reply}
use Rattle.iddqd_layer.specs.declared.run.Reply.TheVariants.{Reserved, Inserted, Removed, Rehashed, Shrunk, Cleared, Compacted, NoMemory}
use Rattle.iddqd_layer.specs.declared.way.Way.{Way}

-- An insert: the next index is live and in each table, or it was refused, for one of four reasons, and nothing changed
-- but what memory is reserved.
pub record Inserts (hashes : List ℕ) (ways : List Way) (old : Layer) (result : Result ℕ Refusal) (new : Layer)
    : Type 0 where
  pub index : IfOk result (λ ix. ix ≡ next_index (store_of old))
  pub stored : OnOk result (store_of new ≡ inserted (store_of old) tt)
  pub hashed : IfOk result (λ ix. EachBy (IsFiled ix) hashes (hashed_of old) (hashed_of new))
  pub ordered : IfOk result (λ ix. EachBy (IsPlaced ix) ways (ordered_of old) (ordered_of new))
  pub unchanged : OnErr result (HasSameContents old new)
  pub count : result ≡ Err why.Count → length hashes ≡ length (hashed_of old) →
      length ways ≡ length (ordered_of old) → ⊥
  pub way : result ≡ Err why.Way → Each LeadsToGap (ordered_of old) ways → ⊥
  pub full : result ≡ Err why.Full → IsFull (store_of old)
  pub memory : result ≡ Err why.Memory → room old ≡ 0

-- a removal: a live index has left the store and each table, and is the next to be drawn
pub record Removes (ix : ℕ) (old : Layer) (was_live : Bool) (new : Layer) : Type 0 where
  pub live : IsTrue was_live ↔ IsLive (store_of old) ix
  pub stored : was_live ≡ true → store_of new ≡ removed (store_of old) ix
  pub hashed : was_live ≡ true → Each (IsUnfiled ix) (hashed_of old) (hashed_of new)
  pub ordered : was_live ≡ true → Each (IsTakenOut ix) (ordered_of old) (ordered_of new)
  pub freed : was_live ≡ true → FitsItsMemory old → room new ≡ room old + 1
  pub unchanged : was_live ≡ false → new ≡ old

-- a rehash: a live index is under another hash in one table
pub record Rehashes (ix key hash : ℕ) (old : Layer) (done : Bool) (new : Layer) : Type 0 where
  pub can : IsTrue done ↔ (IsLive (store_of old) ix × (key < length (hashed_of old)))
  pub store : store_of new ≡ store_of old
  pub filed : done ≡ true → (t : Table ℕ) →
      IsRefiled ix hash (slice_index_or (hashed_of old) key t) (slice_index_or (hashed_of new) key t)
  pub others : (k : ℕ) (t : Table ℕ) → k ≢ key →
      slice_index_or (hashed_of new) k t ≡ slice_index_or (hashed_of old) k t
  pub ordered : ordered_of new ≡ ordered_of old
  pub unchanged : done ≡ false → new ≡ old

-- memory was given back
pub record GivesBack (least : ℕ) (old new : Layer) : Type 0 where
  pub same : HasSameContents old new
  pub slots : slot_capacity new ≡ min (slot_capacity old) (max least (slot_count (store_of old)))
  pub hashed : Each (HasFewCells least) (hashed_of old) (hashed_of new)
  pub ordered : Each (ShrinksOrdered least) (ordered_of old) (ordered_of new)

-- no index is live, and no table has one
pub record Clears (old new : Layer) : Type 0 where
  pub store : store_of new ≡ cleared (store_of old)
  pub hashed : Each ForgetsHashed (hashed_of old) (hashed_of new)
  pub ordered : Each ForgetsOrdered (ordered_of old) (ordered_of new)

-- each live index has its rank as its new name
pub record Compacts (old new : Layer) : Type 0 where
  pub store : store_of new ≡ compacted (store_of old)
  pub hashed : Each (RenamesHashed (rank (store_of old))) (hashed_of old) (hashed_of new)
  pub ordered : Each (RenamesOrdered (rank (store_of old))) (ordered_of old) (ordered_of new)

-- what a call may return and leave
abbrev pub Answers : Layer → Command → Reply → Layer → Type 0
Answers old (Reserve additional) Reserved new =
    HasSameContents old new × (min additional (insertable (store_of old)) ≤ room new)
Answers old (Reserve additional) NoMemory new = HasSameContents old new × (room old < additional)
Answers old (Insert hashes ways) (Inserted result) new = Inserts hashes.items ways.items old result new
Answers old (Remove ix hashes ways) (Removed was_live) new = Removes ix old was_live new
Answers old (Rehash ix key from to) (Rehashed done) new = Rehashes ix key to old done new
Answers old (ShrinkTo least) Shrunk new = GivesBack least old new
Answers old (ShrinkTo least) NoMemory new = HasSameContents old new
Answers old Clear Cleared new = Clears old new
Answers old Compact (Compacted remap) new = IsRemapOf (store_of old) remap × Compacts old new
Answers old Compact NoMemory new = new ≡ old
Answers old command reply new = ⊥

-- how much room the reply uses up: an insert that wasn't refused uses one
abbrev pub used_by : Reply → ℕ
used_by (Inserted (Ok ix)) = 1
used_by reply = 0

abbrev pub is_insert : Command → Bool
is_insert (Insert hashes ways) = true
is_insert command = false

abbrev pub is_shrink : Command → Bool
is_shrink (ShrinkTo least) = true
is_shrink command = false

-- one call: what it returns and leaves, that each table keeps each live index once and no other, and the room
pub record Step (old : Layer) (command : Command) (reply : Reply) (new : Layer) : Type 0 where
  pub answers : Answers old command reply new
  pub paired : IsPaired old × IsPaired new
  pub fits : FitsItsMemory old → FitsItsMemory new
  pub room : is_shrink command ≡ false → room old ≤ room new + used_by reply

-- from one layer through these later ones to the last: a step to each, and a reply to each command
pub data IsStepChain : Layer → List Command → List Reply → List Layer → Layer → Type 0 where
  No_step : {l : Layer} → IsStepChain l [] [] [] l
  Next_step :
      {old next new : Layer} {command : Command} {reply : Reply}
      {commands : List Command} {replies : List Reply} {moments : List Layer}
      → Step old command reply next → IsStepChain next commands replies moments new
      → IsStepChain old (command ∷ commands) (reply ∷ replies) (next ∷ moments) new

-- A run over a list of calls. Each is answered as its clauses say. At every moment each table has each live index once
-- and no other. If the ordered tables fit their memory at first, they always do. If there is room at first for as many
-- inserts as there are in the list, and no memory is given back, no insert is refused for memory.
pub record Run (old : Layer) (commands : List Command) (replies : List Reply) (new : Layer) : Type 0 where
  pub moments : List Layer
  pub steps : IsStepChain old commands replies moments new
  pub paired : All IsPaired (old ∷ moments)
  pub fits : FitsItsMemory old → All FitsItsMemory (old ∷ moments)
  pub memory : All (λ command. is_shrink command ≡ false) commands → count_by is_insert commands ≤ room old →
      All (λ reply. reply ≢ Inserted (Err why.Memory)) replies
