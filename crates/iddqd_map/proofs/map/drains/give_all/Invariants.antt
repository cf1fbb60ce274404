use Rattle.std.proofs.Common.{◌≡◌}
use Rattle.iddqd_map.proofs.BulkLemmas.{Giving}
use Rattle.iddqd_map.proofs.map.drains.give_all.Given as goal

abbrev pub invariant-loop-at : goal.invariant-loop-at
invariant-loop-at g l = record {
  giving : Giving g.F.FnMut l.fn.gone l.fn.items.store l.items.store l.at l.gone;
  slots : l.items.capacity ≡ l.fn.items.capacity;
}
