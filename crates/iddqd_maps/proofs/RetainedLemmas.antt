-- For callers of `retain`, `retain_range_by`, `retain_in` and their like: that exactly the items that pass
-- a test stay, where the closure's answers are that test; and that a closure may be asked which asks for something.
pub use Rattle.iddqd_map.proofs.RetainedLemmas.{CanAsk-by, RetainsTo-tested, Retains-tested, RetainsWithin-stays, RetainsWithin-gone, GivesRefusedWithin-tested}
pub use Rattle.iddqd_ord_map.proofs.OrderedCallerLemmas.{RetainsAlong-tested, walked}
pub use Rattle.iddqd_by_hash.proofs.RetainLemmas.{AsksInTurn-by, AsksInTurn-to_come, AsksInTurn-can}
pub use Rattle.iddqd_map.proofs.RangeRetainLemmas.{AsksWithin-by}
pub use Rattle.iddqd_map.proofs.SelectionCallerLemmas.{RetainsSelected-stays, RetainsSelected-gone, GivesRejected-tested}
