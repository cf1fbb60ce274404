use Rattle.std.proofs.Common.{◌∙◌, sym, subst}
use Rattle.iddqd_order.specs.Range.{indexes_ahead}
use Rattle.iddqd_keys.specs.Bounds.{is_in_bounds}
use Rattle.iddqd_keys.specs.KeyWalk.{pairs_at}
use Rattle.iddqd_ord_map.specs.InOrder.{IteratesInOrder}
use Rattle.iddqd_ord_map.proofs.InOrderLemmas.{AreLive-listed, IteratesInOrder-listed}
use Rattle.iddqd_ord_map.proofs.in_order.MapInOrder.range_by.Goals as goal

pub new-requires : goal.new-requires
new-requires g c =
    let within = is_in_bounds g.X.OrderedAt.compare c.into_bounds.result in
    AreLive-listed g.X.OrderedAt.order c.parts-2.inside.items.now.store within (indexes_ahead c.range_at.result) c.range_at.ensures

pub returns : goal.returns
returns g c =
    let order = g.X.OrderedAt.order in
    let within = is_in_bounds g.X.OrderedAt.compare c.into_bounds.result in
    let s = c.parts-2.inside.items.now.store in
    let xs = indexes_ahead c.range_at.result in
    let walk = IteratesInOrder-listed order s within xs c.range_at.ensures in
    let seen = subst (λ t. IteratesInOrder order within t (pairs_at s xs)) (c.parts-2.view_is ∙ c.parts.ensures) walk in
    rw (← c.into_bounds.ensures) (subst (IteratesInOrder order within c.args.self.now.store) (sym c.new.ensures) seen)
