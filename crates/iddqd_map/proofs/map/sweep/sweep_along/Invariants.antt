use Rattle.std.proofs.Common.{◌≡◌, IfSome, length}
use Rattle.iddqd_map.specs.Groups.{listed_from}
use Rattle.iddqd_map.specs.KeyIndex.{IsIndexed}
use Rattle.iddqd_map.specs.Sweep.{CalledPairAt, GivesPair, TakesPair, TakesPairAt}
use Rattle.iddqd_map.proofs.SweepLemmas.{Sweeping}
use Rattle.iddqd_map.proofs.map.sweep.sweep_along.Given as goal

abbrev pub invariant-loop-next : goal.invariant-loop-next
invariant-loop-next g l = record {
  kept : IsIndexed (g.X.KeyIndex.indexes l.indexes) l.fn.state l.items.store;
  stands : IfSome l.next (g.W.Selection.stands l.fn.which l.indexes l.spot);
  sweeping : Sweeping (TakesPairAt g.F.FnMut) (CalledPairAt g.F.FnMut) g.R.Answer.reads (TakesPair g.G.FnMut)
      (GivesPair g.G.FnMut) (g.W.Selection.lists l.fn.which) (g.W.Selection.selects l.fn.which) l.fn.ask l.fn.gone
      l.fn.items.store l.items.store (listed_from (g.W.Selection.behind l.fn.which l.indexes l.items.store) l.next) l.ask
      l.gone;
  slots : l.items.capacity ≡ l.fn.items.capacity;
  capacity : g.X.KeyIndex.capacity l.indexes ≡ g.X.KeyIndex.capacity l.fn.indexes;
  cells : g.X.KeyIndex.cells l.indexes ≡ g.X.KeyIndex.cells l.fn.indexes;
}

abbrev pub decreases-loop-next : goal.decreases-loop-next
decreases-loop-next g l = length (listed_from (g.W.Selection.behind l.fn.which l.indexes l.items.store) l.next)
