use Rattle.std.proofs.Common.{◌≡◌, ◌==◌, length}
use Rattle.std.specs.List.{list_any}
use Rattle.iddqd_hash.proofs.hash_table.MapHashTable.contains_index.Given as goal

-- the index is among those that are left if and only if it was among all
abbrev pub invariant-walking : goal.invariant-walking
invariant-walking l = list_any (λ at. at == l.ix) l.walk ≡ list_any (λ at. at == l.ix) l.initial.walk

abbrev pub decreases-walking : goal.decreases-walking
decreases-walking l = length l.walk
