pub mod Hashed
pub mod HashedMove
pub mod Retain
