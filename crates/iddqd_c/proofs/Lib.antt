mod Words
pub mod AnswerLemmas
pub mod FirstLemmas
pub mod InsertLemmas
pub mod ReplaceLemmas
pub mod CallLemmas
pub mod CopyLemmas
pub mod ManyLemmas
pub mod CompactingLemmas
pub mod LayerLemmas
mod MixingLemmas
mod FilingLemmas
