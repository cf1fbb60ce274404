use Rattle.std.proofs.Common.{filter, refl, sym, subst}
use Rattle.iddqd.specs.LiveItems.{live_items}
use Rattle.iddqd.proofs.LiveLemmas.{live_at}
use Rattle.iddqd_map.specs.KeyIndex.{IsIndexed}
use Rattle.iddqd_map.specs.ModifyMany.{IsStoredHit, MayLeave, TakesMut}
use Rattle.iddqd_map.proofs.AlongLemmas.{kept_along}
use Rattle.iddqd_map.proofs.MapLemmas.{IsIndexed-rebound}
use Rattle.iddqd_map.proofs.RetainLemmas.{MayAsk-can}
use Rattle.iddqd_map.proofs.map.Map.modify_hashed_group_by.Goals as goal

pub modify_group-requires-clause-callable : goal.modify_group-requires-clause-callable
modify_group-requires-clause-callable g c =
    let items = filter (g.X.GroupedAt.stands_for c.args.query) (live_items c.args.self.now.store) in
    rw (← c.self.view_is) at (MayAsk-can (TakesMut g.F.FnMut) (MayLeave g.F.FnMut) c.args.f items c.requires.callable)

pub invariant_of-self : goal.invariant_of-self
invariant_of-self g c =
    let test = g.X.GroupedAt.stands_for c.args.query in
    let old = c.self.inside.items.store in
    let indexes = c.self.inside.indexes in
    let state = c.self.inside.state in
    let given = c.self.invariant in
    let did = c.modify_group.ensures.modified in
    let keeps = rw (← c.self.view_is) at c.requires.keeps in
    let after =
    kept_along g.F.FnMut g.X.KeyIndex.keys (IsStoredHit old test) keeps (IsIndexed (g.X.KeyIndex.indexes indexes) state)
    (λ s ix was left kept live same.
    IsIndexed-rebound _ state s _ ix left refl kept.valid (live_at s ix was live)
    (g.met.X.IndexLaws.modified indexes state s ix was left kept.indexed live same))
    old did.indexes old did.calls.calls c.args.f c.modify_group.new.f did.hits.once
    (λ j here. let (x, live, passed) = (did.hits.each j).0 here in (x, live, (j, live, passed)))
    (λ j here. refl) did.calls.each_once did.calls.were_called given in
    subst (IsIndexed (g.X.KeyIndex.indexes indexes) state) (sym did.calls.left) after
