pub mod Asks
pub mod CellKinds
pub mod Clones
pub mod Entries
pub mod HashTable
pub mod MapHashTable
pub mod MapHashTableEntry
pub mod OpenRebuild
pub mod OpenTable
pub mod OpenWalk
pub mod OpenWalkUnder
pub mod OpenTableSizes
pub mod Sizes
pub mod TableEntry
-- what a caller's clauses cite of the crate below and of this one, in one place
pub use Rattle.iddqd.specs.Compaction
pub use Rattle.iddqd.specs.MapHash
pub use Rattle.iddqd.specs.Compaction.{remapped, CanRemap}
pub use Rattle.iddqd.specs.MapHash.{hash_one}
pub use Rattle.iddqd_hash.specs.HashTable.{entries, values, under, capacity, memory, room}
pub use Rattle.iddqd_hash.specs.MapHashTable.{filed, indexes_of, indexes_under, IsDistinctlyFiled}
pub use Rattle.iddqd_hash.specs.MapHashTable.{FindsWhere, RemovesIndex, Renames}
