-- what callers' clauses cite, from one place
pub use Rattle.iddqd.specs.Store
pub use Rattle.iddqd.specs.LiveItems
pub use Rattle.iddqd.specs.Compaction
pub use Rattle.iddqd_order.specs.Iter
pub use Rattle.iddqd_keys.specs.Scan
pub use Rattle.iddqd_keys.specs.AnyTable
pub use Rattle.iddqd_by_hash.specs.Hashed
pub use Rattle.iddqd_driver.specs.Keys
pub use Rattle.iddqd_driver.specs.State
pub use Rattle.iddqd_driver.specs.Refusal
pub use Rattle.iddqd_driver.specs.KeyIndexes
pub use Rattle.iddqd_driver.specs.Machine
pub use Rattle.iddqd_driver.specs.Run
pub use Rattle.iddqd_driver.specs.Validation
pub use Rattle.iddqd_driver.specs.Memory
pub use Rattle.iddqd_tri.specs.TriKeys
pub use Rattle.iddqd_tri.specs.TriState
pub use Rattle.iddqd_tri.specs.TriMemory
pub use Rattle.iddqd_tri.specs.TriRefusal
pub use Rattle.iddqd_tri.specs.Clashes
pub use Rattle.iddqd_tri.specs.TriTables
pub use Rattle.iddqd_tri.specs.TriCalls
pub use Rattle.iddqd_lines.specs.Line
pub use Rattle.iddqd_lines.specs.Program
pub use Rattle.iddqd_lines.specs.Stream
-- and by their names alone those of items with two keys
pub use Rattle.iddqd.specs.Store.{get, live_count, next_index, IsFull}
pub use Rattle.iddqd.specs.Compaction.{rank, IsRemapOf}
pub use Rattle.iddqd_order.specs.Iter.{indexes_left}
pub use Rattle.iddqd_keys.specs.Scan.{IsLive, AnswersScan}
pub use Rattle.iddqd_driver.specs.Keys.{keys_of, IsDefaultHasher}
pub use Rattle.iddqd_driver.specs.State.{empty_state, empty_state_within, cleared_state, unbound, Compacts, IsPaired}
pub use Rattle.iddqd_driver.specs.KeyIndexes.{hash_in, has, first_key_index, second_key_index, IsInSync, LooksUp, ListsAsScan, AsScan}
pub use Rattle.iddqd_driver.specs.KeyIndexes.{FirstKeysInSync, SecondKeysInSync, AreInSync, Keeps, KeepsUnlessChanged}
pub use Rattle.iddqd_driver.specs.Refusal.{refusal_text}
pub use Rattle.iddqd_driver.specs.Machine.{StoresAt, Inserts, ReportsAsScan, Removes, RemovesBy, Overwrites, Answers, Step}
pub use Rattle.iddqd_driver.specs.Run.{IsSilentChange}
pub use Rattle.iddqd_driver.specs.Memory.{SizedState, no_memory, capacity, room, reservable, IsNoLower, IsMadeFor}
pub use Rattle.iddqd_driver.specs.Memory.{IsDuplicate, IsOutOfMemory, InsertsInMemory, TakesForOne, ReservesInMemory, ShrinksInMemory}
pub use Rattle.iddqd_driver.specs.Memory.{RefusesMemory, IsServedBelow, StepsInMemory, RunsInMemory}
