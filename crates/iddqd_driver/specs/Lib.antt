pub mod Keys
pub mod State
pub mod Refusal
pub mod KeyIndexes
pub mod Machine
pub mod Run
pub mod Validation
pub mod Memory
pub mod Parts
-- what a caller's clauses cite, from one place: of the crates below, and of this one
pub use Rattle.iddqd.specs.Store
pub use Rattle.iddqd.specs.Compaction
pub use Rattle.iddqd_order.specs.Iter
pub use Rattle.iddqd_keys.specs.Scan
pub use Rattle.iddqd_keys.specs.AnyTable
pub use Rattle.iddqd_by_hash.specs.Hashed
pub use Rattle.iddqd.specs.Store.{get, live_count, next_index, IsFull}
pub use Rattle.iddqd.specs.Compaction.{rank, IsRemapOf}
pub use Rattle.iddqd_order.specs.Iter.{indexes_left}
pub use Rattle.iddqd_keys.specs.Scan.{IsLive, AnswersScan}
pub use Rattle.iddqd_driver.specs.Keys.{keys_of, IsDefaultHasher}
pub use Rattle.iddqd_driver.specs.State.{empty_state, empty_state_within, cleared_state, unbound, Compacts, IsPaired}
pub use Rattle.iddqd_driver.specs.KeyIndexes.{hash_in, has, first_key_index, second_key_index, IsInSync, LooksUp, ListsAsScan, AsScan}
pub use Rattle.iddqd_driver.specs.KeyIndexes.{FirstKeysInSync, SecondKeysInSync, AreInSync, Keeps, KeepsUnlessChanged}
pub use Rattle.iddqd_driver.specs.Refusal.{refusal_text}
pub use Rattle.iddqd_driver.specs.Machine.{StoresAt, Inserts, ReportsAsScan, Removes, RemovesBy, Overwrites, Answers, Step}
pub use Rattle.iddqd_driver.specs.Run.{IsSilentChange}
pub use Rattle.iddqd_driver.specs.Memory.{SizedState, no_memory, capacity, room, reservable, IsNoLower, IsMadeFor}
pub use Rattle.iddqd_driver.specs.Memory.{IsDuplicate, IsOutOfMemory, InsertsInMemory, TakesForOne, ReservesInMemory, ShrinksInMemory}
pub use Rattle.iddqd_driver.specs.Memory.{RefusesMemory, IsServedBelow, StepsInMemory, RunsInMemory}
