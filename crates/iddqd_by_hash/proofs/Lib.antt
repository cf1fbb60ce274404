pub mod FindLemmas
pub mod HoldsLemmas
pub mod PlaceLemmas
pub mod HashedCountLemmas
pub mod RetainLemmas
pub mod HashedItemLemmas
