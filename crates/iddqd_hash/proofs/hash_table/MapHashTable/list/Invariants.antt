use Rattle.std.proofs.Common.{◌≡◌, ◌≤◌, ◌++◌, length}
use Rattle.std.specs.Vec.{vec_capacity}
use Rattle.iddqd_hash.proofs.hash_table.MapHashTable.list.Given as goal

abbrev pub invariant-loop-ix : goal.invariant-loop-ix
invariant-loop-ix l = record {
  -- the indexes so far, and those to come
  all : l.list.items ++ l.ix-iterator ≡ l.initial.ix-iterator;
  room : length l.initial.ix-iterator ≤ vec_capacity l.list;
}
