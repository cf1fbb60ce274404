use Rattle.iddqd_ord_map.proofs.InOrderLemmas.{PopsLast-removed}
use Rattle.iddqd_ord_map.proofs.in_order.MapInOrder.pop_last_by.Goals as goal

pub returns-clause-pops : goal.returns-clause-pops
returns-clause-pops g c =
    let (item, last) = c.in_ok-ix.ensures.last in
    PopsLast-removed g.X.SortedAt.sorts_by c.args.self.now c.remove_at.new.self c.in_ok-ix.ix item c.remove_at.result
    c.remove_at.ensures.value c.remove_at.ensures.removes last
