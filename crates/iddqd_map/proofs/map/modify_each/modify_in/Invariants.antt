use Rattle.std.proofs.Common.{◌≡◌}
use Rattle.iddqd_map.specs.KeyIndex.{IsIndexed}
use Rattle.iddqd_map.proofs.ModifyLemmas.{Modifying}
use Rattle.iddqd_map.proofs.map.modify_each.modify_in.Given as goal

abbrev pub invariant-loop-at : goal.invariant-loop-at
invariant-loop-at g l = record {
  kept : IsIndexed (g.X.KeyIndex.indexes l.indexes) l.state l.items.store;
  modifying : Modifying g.F.FnMut l.fn.f l.fn.items.store l.items.store l.at l.f;
  slots : l.items.capacity ≡ l.fn.items.capacity;
}
