pub mod AskLemmas
pub mod BoundLemmas
mod CountSteps
mod CursorLemmas
mod DescentLemmas
mod DigitLemmas
mod FrontLemmas
mod GapLeftLemmas
pub mod GapLemmas
mod GapNumberLemmas
pub mod GatherLemmas
pub mod GuideLemmas
pub mod IndexListLemmas
mod InnerLemmas
pub mod InsertLemmas
pub mod KeyOrderLemmas
pub mod MemberLemmas
mod MendLemmas
pub mod MoveLemmas
mod Names
pub mod NearbyLemmas
pub mod NodeLemmas
mod NodeRenameLemmas
mod PartLemmas
mod RangeLemmas
mod ReadLemmas
mod ReckoningLemmas
mod RecountLemmas
mod RemovalLemmas
pub mod RenameLemmas
mod RetainLemmas
mod RoomLemmas
pub mod SearchLemmas
pub mod TableLemmas
pub mod TreeLemmas
pub mod SameTreeLemmas
mod SpotCursorLemmas
mod SpotLemmas
pub mod SteppingLemmas
pub mod WeaveLemmas
mod WeaveRemovalLemmas
