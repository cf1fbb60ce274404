-- The laws of an index by the order of a key that several items may have.
use Rattle.std.proofs.Common.{Ordering}
use Rattle.iddqd.specs.Store.{Store}
use Rattle.iddqd_order.specs.MapBTreeTable.{Order, HasSameTree}
use Rattle.iddqd_order.specs.declared.btree_table.gap.Gap.{Gap}
use Rattle.iddqd_order.proofs.GapLemmas.{order-same, place-same, Fits-same}
use Rattle.iddqd_ord_map.specs.ByOrderMulti.{IsOwnGapFor}

pub IsOwnGapFor-same_tree :
    {T K : Type 0} (key_of : T → K) (compare : K → K → Ordering) (s : Store T) (t u : Order) (item : T) (gap : Gap)
    → HasSameTree t u
    → IsOwnGapFor key_of compare s t item gap
    → IsOwnGapFor key_of compare s u item gap
IsOwnGapFor-same_tree key_of compare s t u item gap same is = record {
  fits = Fits-same t u gap same is.fits;
  within = rw (order-same t u same, place-same t u gap same) is.within;
  is_place = rw (order-same t u same, place-same t u gap same) is.is_place;
}
