-- How a table takes blocks in advance, and gives them back.
use Rattle.std.specs.Prelude.{◌≡◌, ◌+◌, ◌<◌, ◌≤◌, ℕ, [], min, max, Result, IsOk, IfOk, OnOk, OnErr, length}
use Rattle.iddqd_order.specs.MapBTreeTable.{Order, order_of, capacity, room, capacity_for, HasSameTree}
use Rattle.iddqd_order.specs.Shape.{free_indexes}

-- A new table is made for `indexes` indexes: its capacity is that of the blocks that they need. If they need none, the
-- call takes no memory and succeeds.
pub record TakesRoom {E : Type 0} (indexes : ℕ) (result : Result Order E) : Type 0 where
  pub empty : IfOk result (λ t. order_of t ≡ [])
  pub made : IfOk result (λ t. capacity t ≡ capacity_for indexes)
  pub roomy : IfOk result (λ t. indexes ≤ capacity t)
  pub succeeds : indexes ≤ free_indexes → IsOk result

-- Room was made for `additional` more indexes: the capacity is that of the blocks that all indexes will then need. On
-- an error nothing changes. If there was room already, the call succeeds and nothing changes.
pub record Reserves {A E : Type 0} (additional : ℕ) (old : Order) (result : Result A E) (new : Order) : Type 0 where
  pub tree : HasSameTree old new
  pub contents : order_of new ≡ order_of old
  pub reserved : OnOk result (additional ≤ room new)
  pub made : room old < additional → OnOk result (capacity new ≡ capacity_for (length (order_of old) + additional))
  pub never_less : capacity old ≤ capacity new
  pub refused : OnErr result (new ≡ old)
  pub had_room : additional ≤ room old → IsOk result × (new ≡ old)

-- The capacity shrinks to what `max least len` indexes need, and never grows.
pub record Shrinks (least : ℕ) (old new : Order) : Type 0 where
  pub tree : HasSameTree old new
  pub contents : order_of new ≡ order_of old
  pub shrunk : capacity new ≡ min (capacity old) (capacity_for (max least (length (order_of old))))
