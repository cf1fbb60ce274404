-- The memory of an index in the order of a key, and the blocks that an insert or a move needs.
use Rattle.std.specs.Prelude.{◌*◌, ◌+◌, ◌-◌, ◌≤◌, ℕ, Bool, true, false}
use Rattle.std.specs.declared.cmp.Ordering.{Ordering}
use Rattle.iddqd.specs.Store.{Store}
use Rattle.iddqd_order.specs.MapBTreeTable.{Order, capacity, needed_blocks, move_blocks}
use Rattle.iddqd_order.specs.Gap.{Fits, gap_blocks}
use Rattle.iddqd_order.specs.declared.btree_table.gap.Gap.{Gap}
use Rattle.iddqd_keys.specs.Scan.{IsHit}
use Rattle.iddqd_ord_map.specs.OrderedIndexing.{has_key}
use Rattle.iddqd_ord_map.specs.declared.ordered_move.Move.{Move}
use Rattle.iddqd_ord_map.specs.declared.ordered_move.Move.TheVariants.{Stays, Moves}

-- How many indexes the reserved blocks of a table hold: its capacity without the ten indexes that any table holds, so
-- it is zero if nothing is reserved. It is also the measure of the reserved memory.
abbrev pub reserved_for : Order → ℕ
reserved_for t = capacity t - 10

-- how many indexes the blocks hold that this number of indexes needs
abbrev pub most_cells : ℕ → ℕ
most_cells indexes = 30 * needed_blocks (indexes + 10)

-- whether the index moves
abbrev pub moves : Move → Bool
moves Stays = false
moves Moves = true

-- there are at least as many blocks as an insert at the gap needs, if the gap is one of the table's
abbrev pub HasBlocksAt : Order → ℕ → Gap → Type 0
HasBlocksAt t blocks gap = Fits t gap → gap_blocks t gap ≤ blocks

-- there are at least as many blocks as a move to any place needs, or an insert after a removal
abbrev pub HasBlocksAnywhere : Order → ℕ → Type 0
HasBlocksAnywhere t blocks = move_blocks t ≤ blocks

-- there are at least as many blocks as the move needs
abbrev pub HasBlocksFor : Order → ℕ → Move → Type 0
HasBlocksFor t blocks Stays = Unit {0}
HasBlocksFor t blocks Moves = HasBlocksAnywhere t blocks

module _ {T K : Type 0} (key_of : T → K) (compare : K → K → Ordering) where
  -- a live index that stays has an item with the key of this one
  abbrev pub StaysByKey : Store T → ℕ → T → Move → Type 0
  StaysByKey s ix item Stays = IsHit s (has_key key_of compare (key_of item)) ix
  StaysByKey s ix item Moves = Unit {0}
