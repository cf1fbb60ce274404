use Rattle.std.proofs.Common.{◌≡◌, ◌++◌, ◌∷◌, [], ◌∙◌, All, ap, sym, append_assoc}
use Rattle.std.proofs.lemmas.List.Elements.{All-push}
use Rattle.iddqd.specs.Compaction.{CanRemap, remapped}
use Rattle.iddqd_order.specs.Iter.{indexes_left}
use Rattle.iddqd_order.specs.MapBTreeTable.{order_of}
use Rattle.iddqd_examples.proofs.ordered_table.names.have_own_names.Goals as goal

pub loop-ix-preserved : goal.loop-ix-preserved
loop-ix-preserved c =
    let xs = c.loop-ix.yielded in
    let ix = c.in-Some.ix in
    let so_far = c.loop-ix.invariant in
    let has = c.has_own_name.ensures in (
      append_assoc xs (ix ∷ []) (indexes_left c.next.new.self) ∙ ap (λ z. xs ++ z) (sym c.in-Some.ensures.steps) ∙ so_far.0,
      All-push (CanRemap c.args.remap.now) xs ix so_far.1 (has.named c.if-not-has_own_name.false),
      All-push (λ i. All (λ j. remapped c.args.remap.now i ≡ remapped c.args.remap.now j → i ≡ j) (order_of c.args.table.now)) xs ix so_far.2 (has.own c.if-not-has_own_name.false),
    )
