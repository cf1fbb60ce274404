-- An index by the order of a key that several items may have: where it puts an index.
use Rattle.std.specs.Prelude.{◌≤◌, ℕ, not, Some, length}
use Rattle.std.specs.declared.cmp.Ordering.{Ordering}
use Rattle.iddqd.specs.Store.{Store, next_index}
use Rattle.iddqd_order.specs.MapBTreeTable.{Order, order_of}
use Rattle.iddqd_order.specs.Gap.{Fits, gap_place}
use Rattle.iddqd_order.specs.Search.{IsPlace, with_ties}
use Rattle.iddqd_order.specs.declared.btree_table.gap.Gap.{Gap}
use Rattle.iddqd_keys.specs.Scan.{IsHit}
use Rattle.iddqd_by_order.specs.Ordered.{compared, key_at}
use Rattle.iddqd_ord_map.specs.OrderedIndexing.{has_key}
use Rattle.iddqd_ord_map.specs.declared.ordered_move.Move.{Move}
use Rattle.iddqd_ord_map.specs.declared.ordered_move.Move.TheVariants.{Stays, Moves}

module _ {T K : Type 0} (key_of : T → K) (compare : K → K → Ordering) where
  -- how the key of an item compares with the key of a live index
  abbrev pub item_answer : Store T → T → ℕ → Ordering
  item_answer s item ix = compared (compare (key_of item)) (key_at key_of s ix)

  -- the gap is one of the table's, and the place in the list for the next index under the item's key, ties by index
  pub record IsOwnGapFor (s : Store T) (t : Order) (item : T) (gap : Gap) : Type 0 where
    pub fits : Fits t gap
    pub within : gap_place t gap ≤ length (order_of t)
    pub is_place : IsPlace (with_ties (Some (next_index s)) (item_answer s item)) (order_of t) (gap_place t gap)

  -- a live index stays if and only if its item's key does
  abbrev pub IsMoveFor : Store T → ℕ → T → Move → Type 0
  IsMoveFor s ix item Stays = IsHit s (has_key key_of compare (key_of item)) ix
  IsMoveFor s ix item Moves = IsHit s (λ was. not (has_key key_of compare (key_of item) was)) ix
