pub mod AskLemmas
pub mod FiledLemmas
pub mod LeastCellsLemmas
pub mod MemberLemmas
pub mod RenameLemmas
pub mod RetainLemmas
pub mod RewriteLemmas
mod CellLemmas
mod CopyLemmas
mod IndexLemmas
mod LowestBitLemmas
mod MapHashTableLemmas
mod OpenAddLemmas
mod OpenAheadLemmas
mod OpenCellLemmas
mod OpenLaneLemmas
mod OpenFindLemmas
mod OpenLookupLemmas
mod OpenMoveLemmas
mod OpenPastFullLemmas
mod OpenRetainLemmas
mod OpenResizeLemmas
mod OpenRebuildLemmas
mod OpenRoundLemmas
mod OpenSkipLemmas
mod OpenSlotLemmas
mod OpenTableLemmas
mod OpenVisitLemmas
mod OpenWalkLemmas
mod OpenWalkUnderLemmas
mod PermutationLemmas
mod SizeLemmas
mod UnderLemmas
mod VacancyLemmas
