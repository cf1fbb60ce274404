use Rattle.std.proofs.Common.{refl, arith}
use Rattle.iddqd_keys.specs.OrderedQuery.{is_equal}
use Rattle.iddqd_map.specs.ModifyMany.{TakesMut, MayLeave}
use Rattle.iddqd_map.proofs.ModifyLemmas.{KeepsKeys-group, ModifiesWithin-counts, ModifiesWithin-group}
use Rattle.iddqd_map.proofs.RangeRetainLemmas.{AsksWithin-group, MayAskWithin-asks, KeepsMisses-group}
use Rattle.iddqd_map.proofs.RetainLemmas.{same_memory}
use Rattle.iddqd_map.proofs.map.Map.modify_group_by.Goals as goal

pub modify_within-requires-clause-callable : goal.modify_within-requires-clause-callable
modify_within-requires-clause-callable g c =
    let comparing = g.X.OrderedAt.compare c.args.query in
    let s = c.args.self.now.store in
    let asks = MayAskWithin-asks g.X.OrderedAt.order (is_equal comparing) (TakesMut g.F.FnMut) (MayLeave g.F.FnMut) c.args.f s c.requires.callable in
    let within = AsksWithin-group comparing s s g.X.OrderedAt.order (TakesMut g.F.FnMut) (MayLeave g.F.FnMut) c.args.f asks in
    rw c.only.ensures (rw (← c.self.view_is) at within)

pub modify_within-requires-clause-keeps : goal.modify_within-requires-clause-keeps
modify_within-requires-clause-keeps g c =
    let keeps = KeepsKeys-group g.F.FnMut (g.X.OrderedAt.compare c.args.query) c.args.self.now.store g.X.KeyIndex.keys c.requires.keeps in
    rw c.only.ensures (rw (← c.self.view_is) at keeps)

pub returns-clause-modified : goal.returns-clause-modified
returns-clause-modified g c =
    let s = c.self.inside.items.store in
    let did = c.modify_within in
    rw (← c.self.view_is)
    (did.new.f, ModifiesWithin-group g.F.FnMut (g.X.OrderedAt.compare c.args.query) s g.X.OrderedAt.order c.args.f did.new.f did.new.items.store did.result (rw c.only.ensures at did.ensures.modified))

pub returns-clause-counted : goal.returns-clause-counted
returns-clause-counted g c =
    let s = c.self.inside.items.store in
    let did = c.modify_within in
    let along = ModifiesWithin-group g.F.FnMut (g.X.OrderedAt.compare c.args.query) s g.X.OrderedAt.order c.args.f did.new.f did.new.items.store did.result (rw c.only.ensures at did.ensures.modified) in
    rw (← c.self.view_is)
    (ModifiesWithin-counts g.F.FnMut g.X.OrderedAt.order g.met.X.StepsAt.total (is_equal (g.X.OrderedAt.compare c.args.query)) c.args.f did.new.f s did.new.items.store did.result along)

pub returns-clause-others : goal.returns-clause-others
returns-clause-others g c =
    rw (← c.self.view_is)
    (KeepsMisses-group (g.X.OrderedAt.compare c.args.query) c.self.inside.items.store c.modify_within.new.items.store (rw c.only.ensures at c.modify_within.ensures.others))

pub returns-clause-memory : goal.returns-clause-memory
returns-clause-memory g c = rw (← c.self.view_is) (same_memory c.modify_within.ensures.slots refl refl)

pub returns-clause-room : goal.returns-clause-room
returns-clause-room g c =
    let did = c.modify_within.ensures in
    rw (← c.self.view_is) (omega (arith, did.count, did.limit, did.slots))
