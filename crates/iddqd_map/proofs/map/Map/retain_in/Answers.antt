use Rattle.std.proofs.Common.{rules}
use Rattle.iddqd_map.specs.Sweep.{CalledPairAt, GivesPair, TakesPairAt, kept_if}
use Rattle.iddqd_map.proofs.SelectedLemmas.{AsksAlong-go_on, AsksAlong-may, CanSweepAlong-both, RetainsSelected-swept, TakesSomeAlong-all}
use Rattle.iddqd_map.proofs.map.Map.retain_in.Goals as goal

pub sweep_counted-dropped-requires-clause-callable : goal.sweep_counted-dropped-requires-clause-callable
sweep_counted-dropped-requires-clause-callable g c =
    let s = c.self.inside.items.store in
    let lists = g.W.Selection.lists c.args.which in
    let takes = TakesPairAt g.F.FnMut in
    let ask = CalledPairAt g.F.FnMut in
    let asks = AsksAlong-may lists takes ask c.args.f s (rw (← c.self.view_is) at c.requires) in
    CanSweepAlong-both lists takes ask kept_if _ c.args.f _ s (AsksAlong-go_on lists takes ask c.args.f s asks)
    (TakesSomeAlong-all lists _ (λ p x. search rules) _ s)

pub returns-clause-asked : goal.returns-clause-asked
returns-clause-asked g c =
    let did = c.sweep_counted-dropped.ensures.swept in
    rw (← c.self.view_is)
    (RetainsSelected-swept (g.W.Selection.lists c.args.which) (CalledPairAt g.F.FnMut) _ c.args.f _
    c.self.inside.items.store c.sweep_counted-dropped.new.items.store c.sweep_counted-dropped.result.1 did)
