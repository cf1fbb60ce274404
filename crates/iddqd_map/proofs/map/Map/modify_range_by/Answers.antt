use Rattle.std.proofs.Common.{refl, arith}
use Rattle.iddqd_keys.specs.Bounds.{is_in_bounds}
use Rattle.iddqd_map.specs.ModifyMany.{TakesMut, MayLeave}
use Rattle.iddqd_map.proofs.ModifyLemmas.{ModifiesWithin-counts}
use Rattle.iddqd_map.proofs.RangeRetainLemmas.{MayAskWithin-asks}
use Rattle.iddqd_map.proofs.RetainLemmas.{same_memory}
use Rattle.iddqd_map.proofs.map.Map.modify_range_by.Goals as goal

pub modify_within-requires-clause-callable : goal.modify_within-requires-clause-callable
modify_within-requires-clause-callable g c =
    let within = is_in_bounds g.X.OrderedAt.compare (g.R.IntoBounds.bounds c.args.range) in
    rw (← c.self.view_is, ← c.into_bounds-bounds.ensures) at (MayAskWithin-asks g.X.OrderedAt.order within (TakesMut g.F.FnMut) (MayLeave g.F.FnMut) c.args.f c.args.self.now.store c.requires.callable)

pub modify_within-requires-clause-keeps : goal.modify_within-requires-clause-keeps
modify_within-requires-clause-keeps g c = rw (← c.self.view_is, ← c.into_bounds-bounds.ensures) at c.requires.keeps

pub returns-clause-counted : goal.returns-clause-counted
returns-clause-counted g c =
    let within = is_in_bounds g.X.OrderedAt.compare c.into_bounds-bounds.result in
    let s = c.self.inside.items.store in
    let did = c.modify_within in
    rw (← c.self.view_is, ← c.into_bounds-bounds.ensures)
    (ModifiesWithin-counts g.F.FnMut g.X.OrderedAt.order g.met.X.StepsAt.total within c.args.f did.new.f s did.new.items.store did.result did.ensures.modified)

pub returns-clause-memory : goal.returns-clause-memory
returns-clause-memory g c = rw (← c.self.view_is) (same_memory c.modify_within.ensures.slots refl refl)

pub returns-clause-room : goal.returns-clause-room
returns-clause-room g c =
    let did = c.modify_within.ensures in
    rw (← c.self.view_is) (omega (arith, did.count, did.limit, did.slots))

pub returns-clause-others : goal.returns-clause-others
returns-clause-others g c = rw (← c.self.view_is, ← c.into_bounds-bounds.ensures) c.modify_within.ensures.others
