use Rattle.std.proofs.Common.{◌∙◌, ap, subst, insert}
use Rattle.std.specs.List.{Contains}
use Rattle.iddqd_order.specs.Gap.{gap_place}
use Rattle.iddqd_order.specs.MapBTreeTable.{order_of}
use Rattle.iddqd_by_order.proofs.OrderedHoldsLemmas.{next_absent}
use Rattle.iddqd_ord_map.proofs.OrderedMoveLemmas.{IsSortedScan-inserted}
use Rattle.iddqd_ord_map.proofs.by_order_multi.ByOrderMultiOfChanges.insert.Goals as goal

pub insert_in-requires-clause-fits : goal.insert_in-requires-clause-fits
insert_in-requires-clause-fits g c = let (state, (s, (item, planned))) = c.requires.planned in planned.fits

pub insert_in-requires-clause-absent : goal.insert_in-requires-clause-absent
insert_in-requires-clause-absent g c = λ here.
    let (state, (s, is, valid, next)) = c.requires.next in
    next_absent s (order_of c.args.self.now.table) is.holds valid (subst (Contains (order_of c.args.self.now.table)) next here)

pub returns-clause-indexed : goal.returns-clause-indexed
returns-clause-indexed g c = λ state s item is valid not_full next none known planned.
    let order = order_of c.args.self.now.table in
    let place = gap_place c.args.self.now.table c.args.plan.now in
    IsSortedScan-inserted g.E.OrdKey.key_of g.E.OrdKey.cmp g.met.E.OrdKey.total s order is item valid place _ planned.within planned.is_place (c.insert_in.ensures.inserted ∙ ap (λ ix. insert order place ix) next)
