use Rattle.iddqd_map.specs.Sweep.{CalledPairAt, GivesPair, TakesPairAt, goes_on, reads_itself}
use Rattle.iddqd_map.proofs.SelectedLemmas.{AsksAlong-may, CanSweepAlong-both, SweepsAlong-stopped, TakesSomeAlong-may}
use Rattle.iddqd_map.proofs.map.Map.sweep.Goals as goal

pub sweep_counted-removed-requires-clause-callable : goal.sweep_counted-removed-requires-clause-callable
sweep_counted-removed-requires-clause-callable g c =
    let s = c.self.inside.items.store in
    let lists = g.W.Selection.lists c.args.which in
    let takes = TakesPairAt g.F.FnMut in
    let ask = CalledPairAt g.F.FnMut in
    let asks = AsksAlong-may lists takes (goes_on reads_itself ask) c.args.ask s (rw (← c.self.view_is) at c.requires.asked) in
    let gives = TakesSomeAlong-may lists g.G.FnMut c.args.gone s (rw (← c.self.view_is) at c.requires.given) in
    CanSweepAlong-both lists takes ask reads_itself g.G.FnMut c.args.ask c.args.gone s asks gives

pub returns-clause-swept : goal.returns-clause-swept
returns-clause-swept g c =
    rw (← c.self.view_is)
    (SweepsAlong-stopped (g.W.Selection.lists c.args.which) (CalledPairAt g.F.FnMut) (GivesPair g.G.FnMut) c.args.ask
    c.args.gone c.self.inside.items.store c.sweep_counted-removed.new.items.store c.sweep_counted-removed.result.1
    c.index_of.result c.index_of.ensures c.sweep_counted-removed.ensures.swept)
