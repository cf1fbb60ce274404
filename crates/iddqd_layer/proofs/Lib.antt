pub mod LawfulLemmas
pub mod LayerLemmas
mod LoopLemmas
mod RoomLemmas
pub mod RunLemmas
