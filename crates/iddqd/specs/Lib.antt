pub mod Store
pub mod LiveItems
pub mod ItemSet
pub mod Sizes
pub mod Reads
pub mod Lends
pub mod GrowError
pub mod GrowHandle
pub mod Slots
pub mod MapHash
pub mod MapHashLaws
pub mod Clones
pub mod Compaction
pub mod Validation
pub mod OrDash
-- what a caller's clauses cite, from one place
pub use Rattle.iddqd.specs.Store.{sentinel, slot_limit, get, slot_count, live_count, next_index, IsFull, IsValid}
pub use Rattle.iddqd.specs.Store.{empty, empty_within, cleared, inserted, removed, rebound}
pub use Rattle.iddqd.specs.ItemSet.{room, with_item, KeepsOthers, GrowsIfDense}
pub use Rattle.iddqd.specs.LiveItems.{live_items, live_pairs}
pub use Rattle.iddqd.specs.Sizes.{ReservesSlots, Shrinks, insertable, grown, doubled}
pub use Rattle.iddqd.specs.GrowError.{grow_error_text}
pub use Rattle.iddqd.specs.GrowHandle.{handle_set, handle_store, handle_lender}
pub use Rattle.iddqd.specs.MapHash.{hash_one}
pub use Rattle.iddqd.specs.MapHashLaws.{equal_in, greater_before_in}
pub use Rattle.iddqd.specs.Compaction.{rank, compacted, new_name, numbers, remapped, CanRemap, IsRemapOf}
pub use Rattle.iddqd.specs.Validation.{Allows, IsSoundIn, AreSound, AreSoundInOrder, AreAsExpected, Validates}
pub use Rattle.iddqd.specs.Validation.{Tells, not_compact_text, error_text}
pub use Rattle.iddqd.specs.OrDash.{index_or_dash}
