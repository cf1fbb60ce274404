use Rattle.std.proofs.Common.{◌≡◌, ◌∷◌, ◌<◌, arith}
use Rattle.std.proofs.lemmas.List.Elements.{All-cons, All-same, All-rest}
use Rattle.iddqd_order.specs.Iter.{indexes_left}
use Rattle.iddqd_order.proofs.btree_table.table.MapBTreeTable.are_below.Goals as goal

pub loop-ix-preserved : goal.loop-ix-preserved
loop-ix-preserved c =
    let step : indexes_left c.loop-ix.ix-iterator ≡ c.in-Some.ix ∷ indexes_left c.next.new.self = c.in-Some.ensures.steps in
    let low : c.in-Some.ix < c.args.end = omega (arith, c.as_u32.ensures, c.if-as_u32-end.false) in (
      λ rest. c.loop-ix.invariant.0 (All-same (λ ix. ix < c.args.end) _ _ step (All-cons (λ ix. ix < c.args.end) _ _ low rest)),
      λ all. All-rest (λ ix. ix < c.args.end) _ _ _ step (c.loop-ix.invariant.1 all),
    )
