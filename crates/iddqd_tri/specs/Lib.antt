pub mod TriKeys
pub mod TriState
pub mod TriMemory
pub mod TriRefusal
pub mod Clashes
pub mod TriTables
pub mod TriCalls
-- what a caller's clauses cite, from one place: of the crates below, and of this one
pub use Rattle.iddqd.specs.Store
pub use Rattle.iddqd_keys.specs.Scan
pub use Rattle.iddqd_by_hash.specs.Hashed
pub use Rattle.iddqd.specs.Store.{get, live_count, next_index, IsFull}
pub use Rattle.iddqd_tri.specs.TriKeys.{tri_keys_of, hashing_in, shares}
pub use Rattle.iddqd_tri.specs.TriState.{empty_tri_state, unbound, unbound_all, inserted_state}
pub use Rattle.iddqd_tri.specs.TriState.{IsTriState, ClashesAt, HasNoClash, AreClashes}
pub use Rattle.iddqd_tri.specs.TriMemory.{no_memory, capacity, room, reaching, Grows, Shrinks, ReservesItems, NeedsMemory}
pub use Rattle.iddqd_keys.specs.Removals.{padded}
pub use Rattle.iddqd_tri.specs.TriCalls.{FindsKey, FindsOne, FindsQuery, RemovesItem, Overwriting}
pub use Rattle.iddqd_tri.specs.TriRefusal.{tri_refusal_text, tri_refusal_item}
