-- What an index by the order of a key plans, and what its ends are.
use Rattle.std.specs.Prelude.{◌≡◌, ℕ, Option, Some, None, Result, Ok, Err}
use Rattle.std.specs.declared.cmp.Ordering.{Ordering}
use Rattle.iddqd.specs.Store.{Store, live_count}
use Rattle.iddqd_order.specs.MapBTreeTable.{Order, order_of}
use Rattle.iddqd_order.specs.Gap.{Fits, gap_place}
use Rattle.iddqd_order.specs.declared.btree_table.gap.Gap.{Gap}
use Rattle.iddqd_keys.specs.Scan.{HasNoHit, AnswersScan}
use Rattle.iddqd_by_order.specs.Ordered.{IsVacantAt, HasLeastKey, HasGreatestKey}
use Rattle.iddqd_ord_map.specs.OrderedIndexing.{has_key}

module _ {T K : Type 0} (key_of : T → K) (compare : K → K → Ordering) where
  -- the gap is one of the table's, and the place in the list for the item's key
  pub record IsGapFor (s : Store T) (t : Order) (item : T) (gap : Gap) : Type 0 where
    pub fits : Fits t gap
    pub vacant : IsVacantAt key_of compare s (order_of t) (compare (key_of item)) (gap_place t gap)

  -- the gap for an item, or the index of the one item that has its key
  abbrev pub LooksPlaceUp : Store T → Order → T → Result Gap ℕ → Type 0
  LooksPlaceUp s t item (Ok gap) = HasNoHit s (has_key key_of compare (key_of item)) × IsGapFor s t item gap
  LooksPlaceUp s t item (Err at) = AnswersScan s (has_key key_of compare (key_of item)) (Some at)

  -- the index of the item with the least key, or with the greatest; `None` if there is no item
  abbrev pub FindsLeast : Store T → Option ℕ → Type 0
  FindsLeast s (Some ix) = HasLeastKey key_of compare s ix
  FindsLeast s None = live_count s ≡ 0

  abbrev pub FindsGreatest : Store T → Option ℕ → Type 0
  FindsGreatest s (Some ix) = HasGreatestKey key_of compare s ix
  FindsGreatest s None = live_count s ≡ 0
