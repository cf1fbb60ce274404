use Rattle.std.proofs.Common.{◌∙◌, refl, ap, subst, insert}
use Rattle.std.specs.List.{Contains}
use Rattle.iddqd_order.specs.Gap.{gap_place}
use Rattle.iddqd_order.specs.MapBTreeTable.{order_of}
use Rattle.iddqd_by_order.proofs.OrderedHoldsLemmas.{next_absent}
use Rattle.iddqd_by_order.proofs.OrderedPlaceLemmas.{AddsInPlace-placed}
use Rattle.iddqd_ord_map.proofs.OrderedIndexingLemmas.{Sorts-inserted}
use Rattle.iddqd_ord_map.proofs.by_order.ByOrderOfChanges.insert.Goals as goal

pub insert_in-requires-clause-fits : goal.insert_in-requires-clause-fits
insert_in-requires-clause-fits g c = let (state, (s, (item, planned))) = c.requires.planned in planned.fits

pub insert_in-requires-clause-absent : goal.insert_in-requires-clause-absent
insert_in-requires-clause-absent g c = λ here.
    let (state, (s, is, valid, next)) = c.requires.next in
    next_absent s (order_of c.args.self.now.table) is.held valid (subst (Contains (order_of c.args.self.now.table)) next here)

pub returns-clause-indexed : goal.returns-clause-indexed
returns-clause-indexed g c = λ state s item is valid not_full next none known planned.
    let key_of = g.E.OrdKey.key_of in
    let compare = g.E.OrdKey.cmp in
    let total = g.met.E.OrdKey.total in
    let order = order_of c.args.self.now.table in
    let place = gap_place c.args.self.now.table c.args.plan.now in
    Sorts-inserted key_of compare s order is total item _ valid none
    (AddsInPlace-placed key_of compare total s item order (compare (key_of item)) valid is.held (λ k. refl) place _ planned.vacant (c.insert_in.ensures.inserted ∙ ap (λ ix. insert order place ix) next))
