-- For callers. Which blocks an insert at a gap needs.
use Rattle.std.proofs.Common.{◌≡◌, ◌<◌, ◌≤◌, ◌==◌, ℕ, List, Bool, true, false, not, IsTrue, length, refl, ap, arith, inl, inr, le_refl}
use Rattle.std.proofs.lemmas.Bool.{cases_lt}
use Rattle.std.proofs.lemmas.List.Sums.{length-filter, count_by-le-length}
use Rattle.iddqd_order.specs.MapBTreeTable.{Order, HasSameTree, order_of, capacity, capacity_of, move_blocks, without}
use Rattle.iddqd_order.specs.Gap.{Fits, NeedsNoMoreBlocks, gap_place, gap_blocks}
use Rattle.iddqd_order.specs.declared.btree_table.gap.Gap.{Gap}
use Rattle.iddqd_order.specs.Tree.{in_order, place_in}
use Rattle.iddqd_order.proofs.RoomLemmas.{none-fresh, enough-blocks, move-none, move-most}

-- a table with the same tree has the same list, and the same places
pub order-same : (t u : Order) → HasSameTree t u → order_of u ≡ order_of t
unfolding order_of
order-same t u same = λ i. in_order (same.root i) (same.height i)

pub place-same : (t u : Order) (gap : Gap) → HasSameTree t u → gap_place u gap ≡ gap_place t gap
place-same t u gap same = λ i. place_in (same.root i) (same.height i) gap.path

pub Fits-same : (t u : Order) (gap : Gap) → HasSameTree t u → Fits t gap → Fits u gap
Fits-same t u gap same fits = record {
  tree = rw (same.root, same.height) fits.tree;
  goes = rw (same.root, same.height) fits.goes;
  full = rw (same.root, same.height) fits.full;
  levels = rw same.height fits.levels;
}

-- how much a table can hold at least
pub capacity-least : (t : Order) → capacity t ≡ capacity_of t.reserved
unfolding capacity
capacity-least t = λ i. capacity_of t.reserved

-- below the capacity an insert needs no block
pub none-below : (t : Order) (gap : Gap) → Fits t gap → length (order_of t) < capacity t → gap_blocks t gap ≡ 0
unfolding order_of capacity
none-below t gap fits lt =
    none-fresh t.root t.height t.reserved gap.full gap.path fits.tree fits.goes fits.full fits.levels lt

-- after a removal, the blocks of a move are enough for an insert at any gap
enough-after :
    (old t : Order) (gap : Gap) (blocks : ℕ)
    → Fits t gap
    → length (order_of t) < length (order_of old)
    → t.height ≤ old.height
    → capacity t ≡ capacity old
    → move_blocks old ≤ blocks
    → gap_blocks t gap ≤ blocks
enough-after old t gap blocks fits fewer lower same most =
    let enough = enough-blocks t gap.full blocks gap.path fits.tree fits.goes fits.full fits.levels (λ past.
    let full : capacity old < length (order_of old) = omega (arith, past, fewer, same) in
    omega (arith, move-most old full, most, lower)) in
    omega (arith, enough)

-- and a move needs no more than before
move-after :
    (old t : Order)
    → length (order_of t) ≤ length (order_of old)
    → t.height ≤ old.height
    → capacity t ≡ capacity old
    → move_blocks t ≤ move_blocks old
move-after old t fewer lower same =
    elim (cases_lt (capacity t) (length (order_of t))) [
      | inl past ↦ (let full : capacity old < length (order_of old) = omega (arith, past, fewer, same) in omega (arith, move-most t past, move-most old full, lower))
      | inr within ↦ omega (arith, move-none t within)
    ]

-- a table that got no longer and no higher
pub NeedsNoMoreBlocks-lower :
    (old new : Order)
    → length (order_of new) ≤ length (order_of old)
    → new.height ≤ old.height
    → new.reserved ≡ old.reserved
    → NeedsNoMoreBlocks old new
unfolding capacity
NeedsNoMoreBlocks-lower old new no_longer lower reserved =
    let same : capacity new ≡ capacity old = ap capacity_of reserved in
    record {
      for_move = move-after old new no_longer lower same;
      for_insert = λ fewer gap fits. enough-after old new gap (move_blocks old) fits fewer lower same (le_refl (move_blocks old));
    }

-- a removal leaves no more indexes
pub without-no_longer : (xs : List ℕ) (ix : ℕ) → length (without xs ix) ≤ length xs
without-no_longer xs ix =
    omega (arith, length-filter (λ j. not (j == ix)) xs, count_by-le-length (λ j. not (j == ix)) xs)

-- the same, whether the index was found or not
pub no_longer-found :
    (found : Bool) (old new : Order) (ix : ℕ)
    → (IsTrue found → order_of new ≡ without (order_of old) ix)
    → (found ≡ false → new ≡ old)
    → length (order_of new) ≤ length (order_of old)
no_longer-found true old new ix removed kept = rw (removed refl) (without-no_longer (order_of old) ix)
no_longer-found false old new ix removed kept = rw (kept refl) (le_refl (length (order_of old)))
