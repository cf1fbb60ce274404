use Rattle.iddqd_order_reference.proofs.Names.{◌∙◌, ap, length, subst, sym}
use Rattle.iddqd_order.specs.Stepping.{IsAllBetween, StandsBetween}
use Rattle.iddqd_order_reference.specs.OrderedTable.{order_of}
use Rattle.iddqd_order_reference.proofs.OrderedTableLemmas.{all-between, all-stand}
use Rattle.iddqd_order_reference.proofs.ordered_table_reference.OrderedTable.row.Goals as goal

pub returns-clause-stands : goal.returns-clause-stands
unfolding order_of
returns-clause-stands c =
    let xs = order_of c.args.self.now in
    subst (λ z. StandsBetween xs z 0 (length xs)) (sym (c.deref.ensures.value ∙ ap order_of c.self.view_is)) (all-stand xs)

pub returns-clause-leaf : goal.returns-clause-leaf
unfolding order_of
returns-clause-leaf c = λ _.
    let xs = order_of c.args.self.now in
    subst (λ z. IsAllBetween xs z 0 (length xs)) (sym (c.deref.ensures.value ∙ ap order_of c.self.view_is)) (all-between xs)
