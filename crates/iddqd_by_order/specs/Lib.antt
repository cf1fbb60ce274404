pub mod Ordered
pub mod OrderedWalk
