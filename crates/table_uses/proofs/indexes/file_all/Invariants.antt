use Rattle.std.proofs.Common.{ℕ, ◌<◌, IsSome}
use Rattle.std.specs.FinMap as finite
use Rattle.iddqd_hash.specs.MapHashTable.{filed}
use Rattle.table_uses.proofs.indexes.file_all.Given as goal

abbrev pub invariant-loop-place : goal.invariant-loop-place
invariant-loop-place g l = (ix : ℕ) → IsSome (finite.get (filed l.table) ix) → ix < l.place
