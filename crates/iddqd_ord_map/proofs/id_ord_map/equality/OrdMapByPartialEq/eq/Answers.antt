use Rattle.std.proofs.Common.{◌∙◌, ap}
use Rattle.std.specs.Cmp.Lexicographic.{pointwise}
use Rattle.iddqd_ord_map.specs.Equality.{items_in_order}
use Rattle.iddqd_ord_map.proofs.EqualityLemmas.{compares, items_of_walk}
use Rattle.iddqd_ord_map.proofs.id_ord_map.equality.OrdMapByPartialEq.eq.Goals as goal

pub returns : goal.returns
returns g c =
    let key_of = g.E.OrdKey.key_of in
    let compare = g.E.OrdKey.cmp in
    let equal = g.T.PartialEq.eq in
    let left = items_of_walk key_of compare g.met.E.OrdKey.total c.args.self.now.store c.values.result c.values.ensures.items in
    let right = items_of_walk key_of compare g.met.E.OrdKey.total c.args.other.now.store c.values-2.result c.values-2.ensures.items in
    let (it, xs, ys, o, p, u, v, begins, gave, also_gave, alike, is) = c.eq.ensures.ran in
    let equal_walks = compares equal c.eq.result xs ys c.values.result it u v o p gave also_gave alike is in
    equal_walks ∙ ap (λ l. pointwise equal c.values.result l) begins ∙ ap (λ l. pointwise equal l c.values-2.result) left
    ∙ ap (pointwise equal (items_in_order key_of compare c.args.self.now.store)) right
