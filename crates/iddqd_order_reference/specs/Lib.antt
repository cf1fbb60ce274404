pub mod OrderedIter
pub mod OrderedTable
pub mod PreparedInsert
pub mod PreparedRemove
pub mod Stepping
