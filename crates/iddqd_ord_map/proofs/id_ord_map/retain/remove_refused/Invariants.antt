use Rattle.std.proofs.Common.{◌≡◌}
use Rattle.std.specs.Fn.{TakesAt, CalledAt}
use Rattle.iddqd_map.specs.Bulk.{AsksAndGives, TakesBoth}
use Rattle.iddqd_order.specs.Iter.{indexes_left}
use Rattle.iddqd_order.specs.MapBTreeTable.{order_of}
use Rattle.iddqd_ord_map.proofs.RetainLemmas.{Retaining}
use Rattle.iddqd_ord_map.proofs.id_ord_map.retain.remove_refused.Given as goal

-- the items at the indexes to come are as they were
abbrev pub invariant-loop-ix : goal.invariant-loop-ix
invariant-loop-ix g l =
    let takes = TakesBoth g.G.FnMut (TakesAt g.F.FnMut) in
    let ask = AsksAndGives g.G.FnMut (CalledAt g.F.FnMut) in
    record {
      retaining :
          Retaining takes ask (l.fn.keep, l.fn.gone) l.fn.items.store l.items.store (order_of l.table)
          (indexes_left l.ix-iterator) (l.keep, l.gone);
      slots : l.items.capacity ≡ l.fn.items.capacity;
    }
