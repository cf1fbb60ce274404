use Rattle.std.proofs.Common.{true, refl}
use Rattle.std.specs.Ordering.{eq_by_cmp}
use Rattle.iddqd_by_order.specs.Ordered.{is_equal}
use Rattle.iddqd_map.specs.Map.{shares}
use Rattle.iddqd_ord_map.proofs.CallLemmas.{Replaces-at}
use Rattle.iddqd_ord_map.proofs.id_ord_map.OrdMapBy.replace.Goals as goal

pub returns-in_default-clause-replaces : goal.returns-in_default-clause-replaces
returns-in_default-clause-replaces g c = (refl, c.in_default.ensures, refl)

pub returns-clause-replaces : goal.returns-clause-replaces
returns-clause-replaces g c =
    let alike = shares g.E.OrdKey.key_of (eq_by_cmp g.E.OrdKey.cmp) in
    let test = is_equal (g.Q.ItemRangeQuery.compare_item c.args.query) in
    let (was, live, _) = (c.in-Some.ensures c.in-Some.ix).1 refl in
    Replaces-at alike true c.args.self.now c.replace_at.new.self c.in-Some.ix c.args.item was live test c.replace_at.result c.in-Some.ensures (rw (← c.self.view_is) c.replace_at.ensures.replaces)

pub returns-clause-room : goal.returns-clause-room
returns-clause-room g c = rw (← c.self.view_is) c.replace_at.ensures.room

pub returns-clause-count : goal.returns-clause-count
returns-clause-count g c = rw (← c.self.view_is) c.replace_at.ensures.count
