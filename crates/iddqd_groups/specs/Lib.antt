pub mod ByHashMulti
pub mod ByHashMultiLaws
pub mod HashedGroup
pub mod LinkedTable
pub mod Links
pub mod Upcoming
pub mod InGroups
