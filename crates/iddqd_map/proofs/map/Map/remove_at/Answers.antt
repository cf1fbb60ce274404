use Rattle.std.proofs.Common.{rules}
use Rattle.iddqd_keys.specs.Scan.{IsLive}
use Rattle.iddqd_map.proofs.RoomLemmas.{RemovesAt-count, RemovesAt-freed, RemovesAt-unchanged}
use Rattle.iddqd_map.proofs.TakeLemmas.{RemovesAt-taken}
use Rattle.iddqd_map.proofs.map.Map.remove_at.Goals as goal

pub returns-clause-removes : goal.returns-clause-removes
returns-clause-removes g c =
    let out = c.take_out.ensures in
    let live : IsLive c.self.inside.items.store c.args.ix = search rules in
    rw (← c.self.view_is)
    (RemovesAt-taken c.self.inside.items c.take_out.new.items c.args.ix c.take_out.result _ _ _ _ live out.value
    out.removed out.capacity out.cells)

pub returns-clause-count : goal.returns-clause-count
returns-clause-count g c =
    let valid = c.self.invariant.valid in
    RemovesAt-count _ _ (rw (← c.self.view_is) valid) c.args.ix c.take_out.result (returns-clause-removes g c)

pub returns-clause-unchanged : goal.returns-clause-unchanged
returns-clause-unchanged g c =
    let valid = c.self.invariant.valid in
    RemovesAt-unchanged _ _ (rw (← c.self.view_is) valid) c.args.ix c.take_out.result (returns-clause-removes g c)

pub returns-clause-freed : goal.returns-clause-freed
returns-clause-freed g c =
    let valid = c.self.invariant.valid in
    RemovesAt-freed _ _ (rw (← c.self.view_is) valid) c.args.ix c.take_out.result (returns-clause-removes g c)
