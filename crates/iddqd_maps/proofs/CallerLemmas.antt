-- For callers of maps: what a look-up found passes the test; what an item became that was replaced, changed or
-- modified; what a removal leaves; which items sorted indexes have; `retain` leaves no more items than there were;
-- what is listed by a query of items is listed by their keys; no item is less than the first in order; what a pair of
-- key indexes reports shares a key; what is left once some items were removed, or kept by a test; a copy whose clones
-- are the items has the same store; and what tests of numbers say.
pub use Rattle.iddqd_map.proofs.CallerLemmas.{found_passes, found_same, replaced_one, changed_one, removed_keeps, other_stays, vacant_stays, called_leaves, copied_same, modified_one, retains_fewer, sorted_hits, none_left}
pub use Rattle.iddqd_ord_map.proofs.OrderedCallerLemmas.{retains_along_fewer, FindsFirst-least, IsWalkWithin-keys}
pub use Rattle.iddqd_by_order.proofs.ItemLemmas.{SortsWithin-keys}
pub use Rattle.iddqd_map.proofs.ConflictLemmas.{first_alone, first_hits, not_first, reported_hit, reported_other, second_hits}
pub use Rattle.iddqd_map.proofs.DropLemmas.{Drops-left, Drops-retained}
pub use Rattle.iddqd_keys.proofs.KeyLemmas.{is_earlier, is_less, is_no_later, is_same, is_tied}
pub use Rattle.iddqd_keys.proofs.RemovalLemmas.{count-padded}
pub use Rattle.iddqd_keys.proofs.ScanLemmas.{scan_hits}
pub use Rattle.iddqd_maps.proofs.RetainedLemmas.{AsksInTurn-by, AsksInTurn-to_come, AsksWithin-by, GivesRefusedWithin-tested, GivesRejected-tested, Retains-tested, RetainsAlong-tested, RetainsSelected-gone, RetainsSelected-stays, RetainsTo-tested, RetainsWithin-gone, RetainsWithin-stays, walked}
