use Rattle.iddqd_by_order.specs.Ordered.{is_equal}
use Rattle.iddqd_map.proofs.FoundLemmas.{FindsItem-found}
use Rattle.iddqd_ord_map.proofs.id_ord_map.OrdMapBy.get.Goals as goal

pub returns : goal.returns
returns g c =
    let test = is_equal (g.Q.ItemRangeQuery.compare_item c.args.query) in
    FindsItem-found c.args.self.now.store test c.in_ok-find.field-0 _ c.in_ok-find.ensures (rw (← c.self.view_is) c.get_at.ensures)
