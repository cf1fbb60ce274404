use Rattle.std.proofs.Common.{rules, ◌≡◌, ◌∙◌, ap, ℕ, Some, None, Ok, Err, subst}
use Rattle.iddqd_map.specs.Sweep.{CalledPairAt, SweepsAlong, TakesPairAt, goes_on, kept_if_ok}
use Rattle.iddqd_map.proofs.SelectedLemmas.{AsksAlong-may, CanSweepAlong-both, RetainsUntil-err, RetainsUntil-ok, TakesSomeAlong-all, no_ok}
use Rattle.iddqd_map.proofs.map.Map.try_retain_in.Goals as goal

pub sweep_counted-removed-requires-clause-callable : goal.sweep_counted-removed-requires-clause-callable
sweep_counted-removed-requires-clause-callable g c =
    let s = c.self.inside.items.store in
    let lists = g.W.Selection.lists c.args.which in
    let takes = TakesPairAt g.F.FnMut in
    let ask = CalledPairAt g.F.FnMut in
    let asks = AsksAlong-may lists takes (goes_on kept_if_ok ask) c.args.f s (rw (← c.self.view_is) at c.requires) in
    CanSweepAlong-both lists takes ask kept_if_ok _ c.args.f _ s asks (TakesSomeAlong-all lists _ (λ p x. search rules) _ s)

pub returns-in_default-clause-asked : goal.returns-in_default-clause-asked
returns-in_default-clause-asked g c =
    let s = c.self.inside.items.store in
    let now = c.sweep_counted-removed.new.items.store in
    let lists = g.W.Selection.lists c.args.which in
    let ask = CalledPairAt g.F.FnMut in
    let did = subst (SweepsAlong ask kept_if_ok _ lists c.args.f _ s now) c.in_default.is c.sweep_counted-removed.ensures.swept in
    rw (← c.self.view_is) (RetainsUntil-ok ask lists _ c.args.f _ s now c.sweep_counted-removed.result.0 did)

pub returns-clause-asked : goal.returns-clause-asked
returns-clause-asked g c =
    let s = c.self.inside.items.store in
    let now = c.sweep_counted-removed.new.items.store in
    let lists = g.W.Selection.lists c.args.which in
    let ask = CalledPairAt g.F.FnMut in
    let at : c.sweep_counted-removed.result.1 ≡ Some (c.in-Some.field-0-0, Err c.in-Err.e) = c.in-Some.is ∙ ap (λ answer. Some (c.in-Some.field-0-0, answer)) c.in-Err.is in
    let did = subst (SweepsAlong ask kept_if_ok _ lists c.args.f _ s now) at c.sweep_counted-removed.ensures.swept in
    rw (← c.self.view_is) (RetainsUntil-err ask lists _ c.args.f _ s now ℕ c.in-Some.field-0-0 c.in-Err.e did)

pub unreachable-requires : goal.unreachable-requires
unreachable-requires g c =
    let s = c.self.inside.items.store in
    let now = c.sweep_counted-removed.new.items.store in
    let lists = g.W.Selection.lists c.args.which in
    let ask = CalledPairAt g.F.FnMut in
    let at : c.sweep_counted-removed.result.1 ≡ Some (c.in-Some.field-0-0, Ok c.in-Ok.field-0) = c.in-Some.is ∙ ap (λ answer. Some (c.in-Some.field-0-0, answer)) c.in-Ok.is in
    let did = subst (SweepsAlong ask kept_if_ok _ lists c.args.f _ s now) at c.sweep_counted-removed.ensures.swept in
    no_ok ask lists _ c.args.f _ s now c.in-Some.field-0-0 c.in-Ok.field-0 did
