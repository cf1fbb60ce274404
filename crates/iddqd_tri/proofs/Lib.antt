pub mod ClashLemmas
pub mod TriMemoryLemmas
pub mod TriLemmas
pub mod TriCallLemmas
pub mod TriCountLemmas
