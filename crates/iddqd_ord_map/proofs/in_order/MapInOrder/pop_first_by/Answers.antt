use Rattle.iddqd_ord_map.proofs.InOrderLemmas.{PopsFirst-removed}
use Rattle.iddqd_ord_map.proofs.in_order.MapInOrder.pop_first_by.Goals as goal

pub returns-clause-pops : goal.returns-clause-pops
returns-clause-pops g c =
    let (item, first) = c.in_ok-ix.ensures.first in
    PopsFirst-removed g.X.SortedAt.sorts_by c.args.self.now c.remove_at.new.self c.in_ok-ix.ix item c.remove_at.result
    c.remove_at.ensures.value c.remove_at.ensures.removes first
