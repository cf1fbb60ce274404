use Rattle.std.proofs.Common.{◌≡◌, ◌⊎◌}
use Rattle.iddqd_hash.specs.OpenTable.{IsPowerOfTwo}
use Rattle.iddqd_hash.specs.OpenTableSizes.{FewerCells}
use Rattle.iddqd_hash.proofs.open_table.sizes.fewer_cells.Given as goal

abbrev pub invariant-loop-count : goal.invariant-loop-count
invariant-loop-count l =
    ((l.count ≡ 0) ⊎ IsPowerOfTwo l.count)
    × ((l.count ≡ l.current) ⊎ FewerCells l.needed l.current l.count)

abbrev pub decreases-loop-count : goal.decreases-loop-count
decreases-loop-count l = l.count
