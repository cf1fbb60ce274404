use Rattle.iddqd_map.specs.Sweep.{CalledPairAt, GivesPair, TakesPairAt, kept_if}
use Rattle.iddqd_map.proofs.SelectedLemmas.{AsksAlong-go_on, AsksAlong-may, CanSweepAlong-both, GivesRejected-swept, RetainsSelected-swept, TakesSomeAlong-may}
use Rattle.iddqd_map.proofs.map.Map.retain_into_in.Goals as goal

pub sweep_counted-rejected-requires-clause-callable : goal.sweep_counted-rejected-requires-clause-callable
sweep_counted-rejected-requires-clause-callable g c =
    let s = c.self.inside.items.store in
    let lists = g.W.Selection.lists c.args.which in
    let takes = TakesPairAt g.F.FnMut in
    let ask = CalledPairAt g.F.FnMut in
    let asks = AsksAlong-may lists takes ask c.args.keep s (rw (← c.self.view_is) at c.requires.asked) in
    let gives = TakesSomeAlong-may lists g.G.FnMut c.args.gone s (rw (← c.self.view_is) at c.requires.given) in
    CanSweepAlong-both lists takes ask kept_if g.G.FnMut c.args.keep c.args.gone s
    (AsksAlong-go_on lists takes ask c.args.keep s asks) gives

pub returns-clause-asked : goal.returns-clause-asked
returns-clause-asked g c =
    rw (← c.self.view_is)
    (RetainsSelected-swept (g.W.Selection.lists c.args.which) (CalledPairAt g.F.FnMut) (GivesPair g.G.FnMut) c.args.keep
    c.args.gone c.self.inside.items.store c.sweep_counted-rejected.new.items.store c.sweep_counted-rejected.result.1
    c.sweep_counted-rejected.ensures.swept)

pub returns-clause-given : goal.returns-clause-given
returns-clause-given g c =
    rw (← c.self.view_is)
    (GivesRejected-swept (g.W.Selection.lists c.args.which) (CalledPairAt g.F.FnMut) (GivesPair g.G.FnMut) c.args.keep
    c.args.gone c.self.inside.items.store c.sweep_counted-rejected.new.items.store c.sweep_counted-rejected.result.1
    c.sweep_counted-rejected.ensures.swept)

pub returns-clause-others : goal.returns-clause-others
returns-clause-others g c = rw (← c.self.view_is) c.sweep_counted-rejected.ensures.others
