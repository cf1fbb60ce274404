-- For callers: each step of a store and of a table that sorts its items, keys equal or not, keeps it so.
use Rattle.std.proofs.Common.{◌≡◌, ◌-◌, ℕ, List, [], length, map, Option, Some, None, sym, Ordering}
use Rattle.std.specs.Cmp.{IsTotalOrder}
use Rattle.std.specs.List.{slice_get}
use Rattle.iddqd.specs.Store.{Store, empty_within, get, removed}
use Rattle.iddqd.specs.Compaction.{compacted, rank}
use Rattle.iddqd_order.specs.MapBTreeTable.{without}
use Rattle.iddqd_by_order.specs.Ordered.{IsSortedScan}
use Rattle.iddqd_by_order.proofs.OrderedHoldsLemmas.{Holds-empty, Holds-removed, Holds-compacted}
use Rattle.iddqd_by_order.proofs.OrderedPlaceLemmas.{IsInSync-empty, Keeps-removed, Keeps-compacted}
use Rattle.iddqd_ord_map.specs.ByOrder.{FindsGreatest, FindsLeast}
use Rattle.iddqd_ord_map.proofs.EndLemmas.{nothing_first, nothing_last}
use Rattle.iddqd_ord_map.proofs.OrderedEndLemmas.{HasGreatestKey-last, HasLeastKey-first}

module _ {T K : Type 0} (key_of : T → K) (compare : K → K → Ordering) where
  pub IsSortedScan-empty : (limit : ℕ) → IsSortedScan key_of compare (empty_within limit) []
  IsSortedScan-empty limit = record { holds = Holds-empty T limit; placed = (IsInSync-empty key_of compare limit).placed }

  module _ (s : Store T) (order : List ℕ) (o : IsSortedScan key_of compare s order) (total : IsTotalOrder compare) where
    pub IsSortedScan-removed :
        (ix : ℕ) (item : T)
        → get s ix ≡ Some item
        → IsSortedScan key_of compare (removed s ix) (without order ix)
    IsSortedScan-removed ix item live = record {
      holds = Holds-removed s order o.holds ix item live;
      placed = (Keeps-removed key_of compare total s order ix item live).placed o.placed;
    }

    pub IsSortedScan-compacted : IsSortedScan key_of compare (compacted s) (map (rank s) order)
    IsSortedScan-compacted = record {
      holds = Holds-compacted s order o.holds;
      placed = (Keeps-compacted key_of compare total s order o.holds).placed o.placed;
    }

    -- what the ends of the list are
    pub FindsLeast-first : (r : Option ℕ) → r ≡ slice_get order 0 → FindsLeast key_of compare s r
    FindsLeast-first (Some ix) is = HasLeastKey-first s order o.holds key_of compare total o.placed ix (sym is)
    FindsLeast-first None is = nothing_first s order o.holds (sym is)

    pub FindsGreatest-last : (r : Option ℕ) → r ≡ slice_get order (length order - 1) → FindsGreatest key_of compare s r
    FindsGreatest-last (Some ix) is = HasGreatestKey-last s order o.holds key_of compare total o.placed ix (sym is)
    FindsGreatest-last None is = nothing_last s order o.holds (sym is)
