use Rattle.std.proofs.Common.{arith}
use Rattle.std.specs.Fn.{TakesAt, CalledAt}
use Rattle.iddqd_keys.specs.Bounds.{is_in_bounds}
use Rattle.iddqd_map.specs.Bulk.{GivesIfRefused}
use Rattle.iddqd_map.specs.Ranges.{TakesItem}
use Rattle.iddqd_map.proofs.RangeIntoLemmas.{RetainsWithin-asked, GivesRefusedWithin-both}
use Rattle.iddqd_map.proofs.RangeRetainLemmas.{MayAskWithin-asks}
use Rattle.iddqd_map.proofs.RetainLemmas.{same_memory}
use Rattle.iddqd_map.proofs.map.Map.retain_range_into_by.Goals as goal

pub retain_counted-requires-clause-can_ask : goal.retain_counted-requires-clause-can_ask
retain_counted-requires-clause-can_ask g c =
    let within = is_in_bounds g.X.OrderedAt.compare (g.R.IntoBounds.bounds c.args.range) in
    rw (← c.self.view_is, ← c.into_bounds-bounds.ensures) at (MayAskWithin-asks g.X.OrderedAt.order within (TakesAt g.F.FnMut) (CalledAt g.F.FnMut) c.args.f c.args.self.now.store c.requires.asked)

pub retain_counted-requires-clause-can_give : goal.retain_counted-requires-clause-can_give
retain_counted-requires-clause-can_give g c =
    let within = is_in_bounds g.X.OrderedAt.compare (g.R.IntoBounds.bounds c.args.range) in
    rw (← c.self.view_is, ← c.into_bounds-bounds.ensures) at (MayAskWithin-asks g.X.OrderedAt.order within (TakesItem g.G.FnMut) (GivesIfRefused g.G.FnMut) c.args.g c.args.self.now.store c.requires.given)

pub returns-clause-asked : goal.returns-clause-asked
returns-clause-asked g c =
    let within = is_in_bounds g.X.OrderedAt.compare c.into_bounds-bounds.result in
    let s = c.self.inside.items.store in
    let now = c.retain_counted.new.items.store in
    let last : _ × _ = (c.retain_counted.new.keep, c.retain_counted.new.gone) in
    rw (← c.self.view_is, ← c.into_bounds-bounds.ensures)
    (last.0, RetainsWithin-asked (CalledAt g.F.FnMut) g.G.FnMut g.X.OrderedAt.order within c.args.f c.args.g s now last c.retain_counted.ensures.asked)

pub returns-clause-given : goal.returns-clause-given
returns-clause-given g c =
    let within = is_in_bounds g.X.OrderedAt.compare c.into_bounds-bounds.result in
    let s = c.self.inside.items.store in
    let now = c.retain_counted.new.items.store in
    let last : _ × _ = (c.retain_counted.new.keep, c.retain_counted.new.gone) in
    rw (← c.self.view_is, ← c.into_bounds-bounds.ensures)
    (GivesRefusedWithin-both (CalledAt g.F.FnMut) g.G.FnMut g.X.OrderedAt.order within c.args.f c.args.g s now last c.retain_counted.ensures.asked)

pub returns-clause-memory : goal.returns-clause-memory
returns-clause-memory g c =
    let did = c.retain_counted.ensures in
    rw (← c.self.view_is) (same_memory did.slots did.capacity did.cells)

pub returns-clause-room : goal.returns-clause-room
returns-clause-room g c =
    let did = c.retain_counted.ensures in
    rw (← c.self.view_is) (omega (arith, did.count, did.limit, did.slots, did.capacity))

pub returns-clause-count : goal.returns-clause-count
returns-clause-count g c = rw (← c.self.view_is) c.retain_counted.ensures.count

pub returns-clause-others : goal.returns-clause-others
returns-clause-others g c = rw (← c.self.view_is, ← c.into_bounds-bounds.ensures) c.retain_counted.ensures.others
