use Rattle.std.proofs.Common.{◌≡◌, length}
use Rattle.iddqd_hash.specs.HashTable.{under}
use Rattle.iddqd_hash.proofs.hash_table_reference.iter_hash.split_under.Given as goal

abbrev pub invariant-passing : goal.invariant-passing
invariant-passing g l = under l.hash l.pairs ≡ under l.hash l.rest

abbrev pub decreases-passing : goal.decreases-passing
decreases-passing g l = length l.rest
