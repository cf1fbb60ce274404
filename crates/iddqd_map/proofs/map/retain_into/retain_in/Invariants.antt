use Rattle.std.proofs.Common.{◌≡◌}
use Rattle.std.specs.Fn.{TakesAt, CalledAt}
use Rattle.iddqd_map.specs.KeyIndex.{IsIndexed}
use Rattle.iddqd_map.proofs.IntoLemmas.{RetainingInto}
use Rattle.iddqd_map.proofs.RetainLemmas.{Retaining}
use Rattle.iddqd_map.proofs.map.retain_into.retain_in.Given as goal

abbrev pub invariant-loop-at : goal.invariant-loop-at
invariant-loop-at g l = let old = l.fn.items.store in record {
  kept : IsIndexed (g.X.KeyIndex.indexes l.indexes) l.state l.items.store;
  retaining : Retaining (TakesAt g.F.FnMut) (CalledAt g.F.FnMut) l.fn.keep old l.items.store l.at l.keep;
  into : RetainingInto (CalledAt g.F.FnMut) g.G.FnMut l.fn.keep l.fn.gone old l.items.store l.at l.keep l.gone;
  slots : l.items.capacity ≡ l.fn.items.capacity;
  capacity : g.X.KeyIndex.capacity l.indexes ≡ g.X.KeyIndex.capacity l.fn.indexes;
  cells : g.X.KeyIndex.cells l.indexes ≡ g.X.KeyIndex.cells l.fn.indexes;
}
