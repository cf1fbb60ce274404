use Rattle.std.proofs.Common.{sym, ap, subst}
use Rattle.std.specs.Option.{option_copied}
use Rattle.std.specs.declared.cmp.Ordering.TheVariants.{Less}
use Rattle.iddqd_order.specs.MapBTreeTable.{order_of}
use Rattle.iddqd_ord_map.proofs.OrderedEndLemmas.{HasLeastKey-first}
use Rattle.iddqd_ord_map.specs.KeyOrder.{FindsEnd}
use Rattle.iddqd_ord_map.proofs.EndLemmas.{nothing_first, IsEnd-at, FindsEnd-none, FindsEnd-found}
use Rattle.iddqd_ord_map.proofs.id_ord_map.OrdMapBy.first.Goals as goal

pub returns-in_err-first : goal.returns-in_err-first
returns-in_err-first g c =
    let key_of = g.E.OrdKey.key_of in
    let compare = g.E.OrdKey.cmp in
    let s = c.parts.result.0.now.store in
    subst (λ s. FindsEnd key_of compare Less s (option_copied c.from_residual.result)) c.parts.ensures.items
    (FindsEnd-none key_of compare Less s (option_copied c.from_residual.result) (ap option_copied c.from_residual.ensures)
    (nothing_first s (order_of c.parts.result.1.now) c.parts.ensures.sorted.held (sym c.in_err-first.ensures)))

pub returns : goal.returns
returns g c =
    let key_of = g.E.OrdKey.key_of in
    let compare = g.E.OrdKey.cmp in
    let s = c.parts.result.0.now.store in
    let order = order_of c.parts.result.1.now in
    let o = c.parts.ensures.sorted in
    let ix = c.in_ok-first.field-0 in
    subst (λ s. FindsEnd key_of compare Less s (option_copied c.get.result)) c.parts.ensures.items
    (FindsEnd-found key_of compare Less s ix (option_copied c.get.result)
    (IsEnd-at key_of compare Less s ix (HasLeastKey-first s order o.held key_of compare g.met.E.OrdKey.total o.in_sync.placed ix (sym c.in_ok-first.ensures))) c.get.ensures)
