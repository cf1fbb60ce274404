-- For callers: each step of a store and of a table that sorts its items keeps it so.
use Rattle.std.proofs.Common.{◌≡◌, ℕ, List, [], map, Some, Ordering}
use Rattle.std.specs.Cmp.{IsTotalOrder, eq_by_cmp_equiv}
use Rattle.iddqd.specs.Store.{Store, IsValid, empty_within, cleared, get, inserted, removed}
use Rattle.iddqd.specs.Compaction.{compacted, rank}
use Rattle.iddqd_order.specs.MapBTreeTable.{without}
use Rattle.iddqd_keys.specs.Scan.{HasNoHit}
use Rattle.iddqd_by_order.specs.Ordered.{AddsInPlace}
use Rattle.iddqd_ord_map.specs.OrderedIndexing.{Sorts, has_key}
use Rattle.iddqd_by_order.proofs.OrderedHoldsLemmas.{Holds-empty, Holds-cleared, Holds-removed, Holds-inserted, Holds-compacted}
use Rattle.iddqd_by_order.proofs.OrderedPlaceLemmas.{IsInSync-empty, Keeps-cleared, Keeps-removed, Keeps-compacted}
use Rattle.iddqd_keys.proofs.ScanLemmas.{AreApart-inserted}

module _ {T K : Type 0} (key_of : T → K) (compare : K → K → Ordering) where
  pub Sorts-empty : (limit : ℕ) → Sorts key_of compare (empty_within limit) []
  Sorts-empty limit = record { held = Holds-empty T limit; in_sync = IsInSync-empty key_of compare limit }

  module _ (s : Store T) (order : List ℕ) (o : Sorts key_of compare s order) where
    pub Sorts-cleared : Sorts key_of compare (cleared s) []
    Sorts-cleared = record {
      held = Holds-cleared s;
      in_sync = (Keeps-cleared key_of compare s order).in_sync o.in_sync;
    }

    module _ (total : IsTotalOrder compare) where
      pub Sorts-removed :
          (ix : ℕ) (item : T)
          → get s ix ≡ Some item
          → Sorts key_of compare (removed s ix) (without order ix)
      Sorts-removed ix item live = record {
        held = Holds-removed s order o.held ix item live;
        in_sync = (Keeps-removed key_of compare total s order ix item live).in_sync o.in_sync;
      }

      -- an item whose key none has
      pub Sorts-inserted :
          (item : T) (new : List ℕ)
          → IsValid s
          → HasNoHit s (has_key key_of compare (key_of item))
          → AddsInPlace key_of compare s item order new
          → Sorts key_of compare (inserted s item) new
      Sorts-inserted item new valid none adds = record {
        held = Holds-inserted s order o.held item valid new adds.adds;
        in_sync = record {
          placed = adds.placed o.in_sync.placed;
          apart =
              AreApart-inserted _ s item valid (λ x y. (eq_by_cmp_equiv total).symm (key_of x) (key_of y)) none
              o.in_sync.apart;
        };
      }

      pub Sorts-compacted : Sorts key_of compare (compacted s) (map (rank s) order)
      Sorts-compacted = record {
        held = Holds-compacted s order o.held;
        in_sync = (Keeps-compacted key_of compare total s order o.held).in_sync o.in_sync;
      }
