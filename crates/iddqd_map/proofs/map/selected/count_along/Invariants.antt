use Rattle.std.proofs.Common.{IfSome, length}
use Rattle.iddqd_map.specs.Groups.{listed_from}
use Rattle.iddqd_map.proofs.SelectedLemmas.{Counting}
use Rattle.iddqd_map.proofs.map.selected.count_along.Given as goal

abbrev pub invariant-loop-next : goal.invariant-loop-next
invariant-loop-next g l =
    let behind = g.W.Selection.behind l.fn.which l.fn.indexes l.fn.items.store in
    record {
      stands : IfSome l.next (g.W.Selection.stands l.fn.which l.fn.indexes l.spot);
      counting : Counting (g.W.Selection.selects l.fn.which) l.fn.items.store (listed_from behind l.next) l.count;
    }

abbrev pub decreases-loop-next : goal.decreases-loop-next
decreases-loop-next g l =
    length (listed_from (g.W.Selection.behind l.fn.which l.fn.indexes l.fn.items.store) l.next)
