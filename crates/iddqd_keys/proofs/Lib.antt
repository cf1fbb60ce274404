pub mod ScanLemmas
pub mod CountLemmas
pub mod KeyLemmas
pub mod KeyWalkLemmas
pub mod SortedLemmas
pub mod RemovalLemmas
pub mod NextLemmas
