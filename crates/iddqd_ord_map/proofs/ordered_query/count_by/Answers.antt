use Rattle.std.proofs.Common.{◌≡◌, ◌∙◌, length, map, refl, sym, ap, subst}
use Rattle.std.proofs.lemmas.Iterator.{items_from_drains}
use Rattle.std.proofs.lemmas.Iterator.Consumers.{YieldsList-from_first}
use Rattle.std.proofs.lemmas.List.{length-map}
use Rattle.std.specs.Ordering.{on}
use Rattle.iddqd_order.specs.MapBTreeTable.{order_of}
use Rattle.iddqd_order.specs.Range.{indexes_ahead}
use Rattle.iddqd_by_order.specs.OrderedWalk.{SortsWithin}
use Rattle.iddqd_by_order.proofs.ItemLemmas.{IsInPlace-items}
use Rattle.iddqd_keys.proofs.KeyWalkLemmas.{between_equal}
use Rattle.iddqd_map.specs.Ranges.{itself}
use Rattle.iddqd_ord_map.proofs.ordered_query.count_by.Goals as goal

pub returns : goal.returns
returns g c =
    let s = c.args.items.now.store in
    let group = indexes_ahead c.range.result in
    let (xs, drains, counted) = c.count.ensures.ran in
    let all : map (λ x. x) xs ≡ group =
    items_from_drains xs (drains.1.0, drains.1.1, λ _. (drains.0, drains.1.2)) (YieldsList-from_first (λ x. x) indexes_ahead group refl) in
    let sorted = subst (λ within. SortsWithin itself (on g.E.OrdKey.key_of g.E.OrdKey.cmp) within s group)
    (between_equal (g.Q.ItemRangeQuery.compare_item c.args.query))
    (rw c.only.ensures at
    (c.range.ensures.in_place (IsInPlace-items g.E.OrdKey.key_of g.E.OrdKey.cmp s (order_of c.args.table.now) c.requires.placed))) in (
      group,
      record { each = sorted.each; once = c.range.ensures.once },
      counted ∙ sym (length-map xs (λ x. x)) ∙ ap length all,
    )
