use Rattle.std.proofs.Common.{◌≡◌, ◌∙◌, ◌<◌, [], Contains, length, get_or, sym, subst, rules, le_refl}
use Rattle.iddqd_order.specs.MapBTreeTable.{order_of}
use Rattle.iddqd_layer.specs.Layer.{LeadsToGap}
use Rattle.iddqd_layer.proofs.ordered_keys.insert_ordered.Goals as goal

pub insert_one-requires-clause-way : goal.insert_one-requires-clause-way
insert_one-requires-clause-way c =
    let i = c.loop-i.i in let old = c.args.tables.now.items in
    let lt : i < length old = search rules in
    let d = c.index_mut.result.now in
    let same : d ≡ get_or old i d = c.index_mut.ensures.value ∙ c.loop-i.invariant.left i d (le_refl i) in
    subst (λ z. LeadsToGap z (get_or c.args.ways.now i (record { places = []; level = 0 }))) (sym same)
    (c.requires.ways.at i d (record { places = []; level = 0 }) lt)

pub insert_one-requires-clause-absent : goal.insert_one-requires-clause-absent
insert_one-requires-clause-absent c =
    let i = c.loop-i.i in let old = c.args.tables.now.items in
    let lt : i < length old = search rules in
    let d = c.index_mut.result.now in
    let same : d ≡ get_or old i d = c.index_mut.ensures.value ∙ c.loop-i.invariant.left i d (le_refl i) in
    subst (λ z. Contains (order_of z) c.args.ix → ⊥) (sym same) (c.requires.absent i d lt)
