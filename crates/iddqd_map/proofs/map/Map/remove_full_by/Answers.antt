use Rattle.std.proofs.Common.{◌≡◌, ◌∙◌, None, Some, refl, sym}
use Rattle.iddqd_map.proofs.RoomLemmas.{Removes-count, Removes-freed}
use Rattle.iddqd_map.proofs.TakeLemmas.{IsIndexed-taken, Removes-full, Removes-gone, RemovesFull-hit, RemovesFull-none, room-removes}
use Rattle.iddqd_map.proofs.map.Map.remove_full_by.Goals as goal

pub unreachable-requires : goal.unreachable-requires
unreachable-requires g c =
    let (item, live, passed) = (c.in_ok-ix.ensures.found c.in_ok-ix.ix).1 refl in
    let never : None ≡ Some item = sym c.in-None.is ∙ c.remove.ensures.value ∙ live in
    absurd (cc)

pub invariant_of-self-2 : goal.invariant_of-self-2
invariant_of-self-2 g c =
    let test = g.X.UniqueAt.stands_for c.args.query in
    let did = c.in_ok-ix.ensures in
    let out = c.remove.ensures in
    IsIndexed-taken c.self.inside.items c.remove.new.self test c.in_ok-ix.ix c.remove.result did.found out.value
    out.removed _ c.self.inside.state c.self.invariant.valid did.taken

pub returns-in_err-ix-clause-removes : goal.returns-in_err-ix-clause-removes
returns-in_err-ix-clause-removes g c =
    let test = g.X.UniqueAt.stands_for c.args.query in
    let did = c.in_err-ix.ensures in
    rw (← c.self.view_is)
    (RemovesFull-none c.self.inside.items test c.from_residual.result _ _ _ _ c.from_residual.ensures did.found
    did.capacity did.cells)

pub returns-clause-removes : goal.returns-clause-removes
returns-clause-removes g c =
    let test = g.X.UniqueAt.stands_for c.args.query in
    let did = c.in_ok-ix.ensures in
    let out = c.remove.ensures in
    rw (← c.self.view_is)
    (RemovesFull-hit c.self.inside.items c.remove.new.self test c.in_ok-ix.ix c.remove.result did.found out.value
    out.removed c.in-Some.item c.in-Some.is _ _ _ _ did.capacity did.cells)

pub returns-in_err-ix-clause-gone : goal.returns-in_err-ix-clause-gone
returns-in_err-ix-clause-gone g c =
    let test = g.X.UniqueAt.stands_for c.args.query in
    let none = rw c.from_residual.ensures at (returns-in_err-ix-clause-removes g c) in
    Removes-gone _ _ test None none

pub returns-clause-gone : goal.returns-clause-gone
returns-clause-gone g c =
    let test = g.X.UniqueAt.stands_for c.args.query in
    Removes-gone _ _ test (Some c.in-Some.item) (Removes-full _ _ test _ _ (returns-clause-removes g c))

pub returns-clause-room : goal.returns-clause-room
returns-clause-room g c =
    let test = g.X.UniqueAt.stands_for c.args.query in
    let valid = c.self.invariant.valid in
    room-removes _ _ test (Some c.in-Some.item) (rw (← c.self.view_is) valid) (invariant_of-self-2 g c).valid
    (Removes-full _ _ test _ _ (returns-clause-removes g c))

pub returns-in_err-ix-clause-count : goal.returns-in_err-ix-clause-count
returns-in_err-ix-clause-count g c = rw c.from_residual.ensures tt

pub returns-in_err-ix-clause-unchanged : goal.returns-in_err-ix-clause-unchanged
returns-in_err-ix-clause-unchanged g c =
    let none = rw c.from_residual.ensures at (returns-in_err-ix-clause-removes g c) in
    rw c.from_residual.ensures none.1

pub returns-in_err-ix-clause-freed : goal.returns-in_err-ix-clause-freed
returns-in_err-ix-clause-freed g c = rw c.from_residual.ensures tt

pub returns-clause-count : goal.returns-clause-count
returns-clause-count g c =
    let test = g.X.UniqueAt.stands_for c.args.query in
    let valid = c.self.invariant.valid in
    Removes-count _ _ (rw (← c.self.view_is) valid) test (Some c.in-Some.item)
    (Removes-full _ _ test _ _ (returns-clause-removes g c))

pub returns-clause-freed : goal.returns-clause-freed
returns-clause-freed g c =
    let test = g.X.UniqueAt.stands_for c.args.query in
    let valid = c.self.invariant.valid in
    Removes-freed _ _ (rw (← c.self.view_is) valid) test (Some c.in-Some.item)
    (Removes-full _ _ test _ _ (returns-clause-removes g c))
