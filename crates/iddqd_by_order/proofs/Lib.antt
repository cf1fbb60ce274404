pub mod ItemLemmas
pub mod OrderedFindLemmas
pub mod OrderedHoldsLemmas
pub mod OrderedPlaceLemmas
pub mod OrderedCountLemmas
pub mod OrderedWalkLemmas
pub mod OrderedRangeLemmas
mod OrderedNextLemmas
pub mod OrderedRetainLemmas
