use Rattle.std.proofs.Common.{rules, Bool}
use Rattle.iddqd_map.specs.Sweep.{CalledPairAt, GivesPair, TakesPair}
use Rattle.iddqd_map.proofs.SelectedLemmas.{AsksAlong-may, CanSweepAlong-remove, LeavesOthers-swept, RemovesSelected-swept}
use Rattle.iddqd_map.proofs.map.Map.remove_in.Goals as goal

pub sweep_counted-emptied-requires-clause-callable : goal.sweep_counted-emptied-requires-clause-callable
sweep_counted-emptied-requires-clause-callable g c =
    let s = c.self.inside.items.store in
    let lists = g.W.Selection.lists c.args.which in
    let accepts = TakesPair g.F.FnMut in
    let give = GivesPair g.F.FnMut in
    let asks = AsksAlong-may lists accepts (λ p x (b : Bool) q. give p x q) c.args.gone s (rw (← c.self.view_is) at c.requires) in
    CanSweepAlong-remove lists _ _ accepts give (λ p x. search rules) (λ p x b q asked. search rules) _ c.args.gone s asks

pub returns-clause-left : goal.returns-clause-left
returns-clause-left g c =
    let s = c.self.inside.items.store in
    let did = c.sweep_counted-emptied.ensures.swept in
    let lists = g.W.Selection.lists c.args.which in
    rw (← c.self.view_is)
    (LeavesOthers-swept lists _ (GivesPair g.F.FnMut) _ c.args.gone s c.sweep_counted-emptied.new.items.store
    c.sweep_counted-emptied.result.1 did (g.W.Selection.selects c.args.which) (λ p x b q asked. search rules)
    (g.met.W.Selection.hits c.args.which s did.indexes did.listed))

pub returns-clause-given : goal.returns-clause-given
returns-clause-given g c =
    let s = c.self.inside.items.store in
    let did = c.sweep_counted-emptied.ensures.swept in
    let lists = g.W.Selection.lists c.args.which in
    rw (← c.self.view_is)
    (RemovesSelected-swept lists _ (GivesPair g.F.FnMut) _ c.args.gone s c.sweep_counted-emptied.new.items.store
    c.sweep_counted-emptied.result.1 did (g.W.Selection.selects c.args.which) (λ p x b q asked. search rules)
    (g.met.W.Selection.hits c.args.which s did.indexes did.listed))
