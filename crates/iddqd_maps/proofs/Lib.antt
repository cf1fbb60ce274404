-- lemmas that callers' proofs cite, from one place
pub use Rattle.iddqd.proofs.LiveCountLemmas
pub use Rattle.iddqd_keys.proofs.ScanLemmas
pub use Rattle.iddqd_keys.proofs.KeyLemmas
pub use Rattle.iddqd_keys.proofs.KeyWalkLemmas
pub use Rattle.iddqd_keys.proofs.SortedLemmas
pub use Rattle.iddqd_keys.proofs.RemovalLemmas
pub use Rattle.iddqd_map.proofs.ConflictLemmas
pub use Rattle.iddqd_map.proofs.DropLemmas
pub mod CallerLemmas
pub mod RetainedLemmas
