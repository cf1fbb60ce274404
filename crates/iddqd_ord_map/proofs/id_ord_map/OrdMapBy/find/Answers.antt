use Rattle.std.proofs.Common.{subst}
use Rattle.iddqd_keys.specs.Scan.{AnswersScan}
use Rattle.iddqd_by_order.specs.Ordered.{is_equal}
use Rattle.iddqd_ord_map.proofs.id_ord_map.OrdMapBy.find.Goals as goal

pub returns : goal.returns
returns g c =
    let test = is_equal (g.Q.ItemRangeQuery.compare_item c.args.query) in
    subst (λ s. AnswersScan s test c.find_by.result) c.parts.ensures.items c.find_by.ensures
