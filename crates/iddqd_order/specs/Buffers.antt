-- Indexes that are read from a gap on, towards an end of the list, by buffers.
use Rattle.std.specs.Prelude.{◌≡◌, ℕ, ◌+◌, List, ◌++◌, length, min, take, drop, reverse}
use Rattle.iddqd_order.specs.declared.btree_table.cursor.End.{End}
use Rattle.iddqd_order.specs.declared.btree_table.cursor.End.TheVariants.{Front, Back}

-- The first of these indexes stand at the start of a buffer, as many as it has places for, and the places behind them
-- are as they were.
pub record Fills (indexes : List ℕ) (count : ℕ) (was numbers : List ℕ) : Type 0 where
  pub counted : count ≡ min (length was) (length indexes)
  pub filled : numbers ≡ take count indexes ++ drop count was

-- the indexes beyond a gap towards an end, the nearest first
abbrev pub ahead_of : End → ℕ → List ℕ → List ℕ
ahead_of Back gap xs = drop gap xs
ahead_of Front gap xs = reverse (take gap xs)

-- the second gap lies `count` indexes further on, towards an end
abbrev pub LiesAhead : End → ℕ → ℕ → ℕ → Type 0
LiesAhead Back count from to = to ≡ from + count
LiesAhead Front count from to = to + count ≡ from

-- a buffer was filled from one gap on, and the other gap lies behind what was written
pub record ReadsOn (towards : End) (xs : List ℕ) (from count : ℕ) (was numbers : List ℕ) (to : ℕ) : Type 0 where
  pub fills : Fills (ahead_of towards from xs) count was numbers
  pub ahead : LiesAhead towards count from to
