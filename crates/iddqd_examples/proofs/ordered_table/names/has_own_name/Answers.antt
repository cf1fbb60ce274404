use Rattle.std.proofs.Common.{◌≡◌, ◌++◌, ◌∷◌, [], ◌∙◌, ap, sym, append_assoc, rules}
use Rattle.std.proofs.lemmas.List.Elements.{All-push}
use Rattle.iddqd.specs.Compaction.{remapped}
use Rattle.iddqd_order.specs.Iter.{indexes_left}
use Rattle.iddqd_examples.proofs.ordered_table.names.has_own_name.Goals as goal

pub loop-other-preserved : goal.loop-other-preserved
loop-other-preserved c =
    let xs = c.loop-other.yielded in
    let other = c.in-Some-other.other in
    let so_far = c.loop-other.invariant in (
      append_assoc xs (other ∷ []) (indexes_left c.next.new.self) ∙ ap (λ z. xs ++ z) (sym c.in-Some-other.ensures.steps) ∙ so_far.0,
      All-push (λ j. remapped c.args.remap.now c.args.ix ≡ remapped c.args.remap.now j → c.args.ix ≡ j) xs other so_far.1 (λ e. search rules),
    )
