use Rattle.std.proofs.Common.{◌≡◌, ◌∙◌, ◌+◌, ◌≤◌, ◌∷◌, Some, length, sym, ap, subst, arith}
use Rattle.iddqd_map.specs.Groups.{listed_from}
use Rattle.iddqd_map.proofs.SelectedLemmas.{Counting, Counting-few, Counting-first, Counting-next}
use Rattle.iddqd_map.proofs.map.selected.count_along.Goals as goal

pub loop-next-init : goal.loop-next-init
loop-next-init g c =
    let s = c.args.items.now.store in
    let behind = g.W.Selection.behind c.args.which.now c.args.indexes.now s in
    record {
      stands = c.in-Some.ensures.stands;
      counting = Counting-first (g.W.Selection.selects c.args.which.now) s _
          (g.met.W.Selection.hits c.args.which.now s _ c.in-Some.ensures.listed);
    }

pub overflow_add-count : goal.overflow_add-count
overflow_add-count g c =
    let s = c.args.items.now.store in
    let test = g.W.Selection.selects c.args.which.now in
    let behind = g.W.Selection.behind c.args.which.now c.args.indexes.now s in
    let w = subst (λ n. Counting test s (listed_from behind n) c.loop-next.count) c.in-Some-next.is c.loop-next.invariant.counting in
    let few = Counting-few test s (c.in-Some-next.ix ∷ behind c.in-Some-next.ix) c.loop-next.count w in
    omega (arith, few, c.requires.indexed.valid.small, c.requires.indexed.valid.named)

pub loop-next-preserved : goal.loop-next-preserved
loop-next-preserved g c =
    let s = c.args.items.now.store in
    let test = g.W.Selection.selects c.args.which.now in
    let behind = g.W.Selection.behind c.args.which.now c.args.indexes.now s in
    let ix = c.in-Some-next.ix in
    let w = subst (λ n. Counting test s (listed_from behind n) c.loop-next.count) c.in-Some-next.is c.loop-next.invariant.counting in
    let rest = listed_from behind c.next-next.result in
    record {
      stands = c.next-next.ensures.stands;
      counting = Counting-next test s ix rest c.loop-next.count
          (subst (λ l. Counting test s (ix ∷ l) c.loop-next.count) c.next-next.ensures.next w);
    }
