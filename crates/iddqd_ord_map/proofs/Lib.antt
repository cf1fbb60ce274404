pub mod ByOrderLemmas
mod InOrderLemmas
pub mod SizeLemmas
pub mod SortedScanLemmas
pub mod OrderedIndexingLemmas
pub mod OrderedMoveLemmas
pub mod OrderedEndLemmas
pub mod OrderedCallerLemmas
mod CallLemmas
mod WalkLemmas
mod EndLemmas
mod TakeLemmas
mod CloneLemmas
mod IntoLemmas
mod RetainLemmas
mod EqualityLemmas
