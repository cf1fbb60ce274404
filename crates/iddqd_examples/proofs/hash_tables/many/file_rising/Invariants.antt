use Rattle.std.proofs.Common.{ℕ, ◌<◌, ◌≤◌, ◌+◌, IsSome}
use Rattle.std.specs.FinMap as finite
use Rattle.iddqd_hash.specs.HashTable.{room}
use Rattle.iddqd_hash.specs.MapHashTable.{filed}
use Rattle.iddqd_examples.proofs.hash_tables.many.file_rising.Given as goal

abbrev pub invariant-loop-number : goal.invariant-loop-number
invariant-loop-number l =
    ((ix : ℕ) → IsSome (finite.get (filed l.table) ix) → ix < l.number)
    × (l.count ≤ room l.table + l.number)
