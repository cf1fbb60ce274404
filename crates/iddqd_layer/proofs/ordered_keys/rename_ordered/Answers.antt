use Rattle.std.proofs.Common.{◌≡◌, ◌∙◌, ℕ, ◌<◌, Contains, length, get_or, sym, subst, rules, le_refl}
use Rattle.iddqd.specs.Compaction.{CanRemap, remapped}
use Rattle.iddqd_order.specs.MapBTreeTable.{order_of}
use Rattle.iddqd_layer.proofs.ordered_keys.rename_ordered.Goals as goal

pub remap_indexes-requires-clause-can_remap : goal.remap_indexes-requires-clause-can_remap
remap_indexes-requires-clause-can_remap c =
    let i = c.loop-i.i in let old = c.args.tables.now.items in
    let lt : i < length old = search rules in
    let d = c.index_mut.result.now in
    let same : d ≡ get_or old i d = c.index_mut.ensures.value ∙ c.loop-i.invariant.left i d (le_refl i) in
    subst (λ z. (ix : ℕ) → Contains (order_of z) ix → CanRemap c.args.remap.now ix) (sym same)
    (c.requires.can_remap i d lt)

pub remap_indexes-requires-clause-distinct : goal.remap_indexes-requires-clause-distinct
remap_indexes-requires-clause-distinct c =
    let i = c.loop-i.i in let old = c.args.tables.now.items in
    let lt : i < length old = search rules in
    let d = c.index_mut.result.now in
    let same : d ≡ get_or old i d = c.index_mut.ensures.value ∙ c.loop-i.invariant.left i d (le_refl i) in
    subst (λ z. (a b : ℕ) → Contains (order_of z) a → Contains (order_of z) b
    → remapped c.args.remap.now a ≡ remapped c.args.remap.now b → a ≡ b) (sym same) (c.requires.distinct i d lt)
