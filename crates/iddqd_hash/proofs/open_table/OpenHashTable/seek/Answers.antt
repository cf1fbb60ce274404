use Rattle.std.proofs.Common.{◌≡◌, ◌∙◌, ◌<◌, length, arith}
use Rattle.std.specs.Fn.{TakesAt, CalledAt}
use Rattle.iddqd_hash.proofs.AskLemmas.{CanAsk-joined}
use Rattle.iddqd_hash.proofs.OpenTableLemmas.{entries-table_of, IfSome-table_of, power_from, empty_from, FindsPlace-table_of, Misses-nothing}
use Rattle.iddqd_hash.proofs.open_table.OpenHashTable.seek.Goals as goal

pub find_cell-requires-clause-power : goal.find_cell-requires-clause-power
find_cell-requires-clause-power g c =
    let some : 0 < length c.self.inside.tags.items = omega arith in
    rw c.as_slice.ensures.value (power_from _ _ _ _ c.self.invariant.sound some)

pub find_cell-requires-clause-ends : goal.find_cell-requires-clause-ends
find_cell-requires-clause-ends g c =
    let some : 0 < length c.self.inside.tags.items = omega arith in
    rw c.as_slice.ensures.value (empty_from _ _ _ _ c.self.invariant.sound some)

pub find_cell-requires-clause-probed : goal.find_cell-requires-clause-probed
find_cell-requires-clause-probed g c =
    rw (c.as_slice.ensures.value, c.as_slice-2.ensures.value) c.self.invariant.sound.probed

pub find_cell-requires-clause-callable : goal.find_cell-requires-clause-callable
find_cell-requires-clause-callable g c =
    let can = CanAsk-joined (TakesAt g.F.FnMut) (CalledAt g.F.FnMut) _ _ c.requires.each c.requires.again in
    rw (c.as_slice.ensures.value, c.as_slice-2.ensures.value) (rw (← c.self.view_is, entries-table_of) at can)

pub returns-then-count-eq0-clause-place : goal.returns-then-count-eq0-clause-place
returns-then-count-eq0-clause-place g c =
    let none : length c.self.inside.tags.items ≡ 0 = omega arith in
    rw (← c.self.view_is, entries-table_of) (Misses-nothing (CalledAt g.F.FnMut) _ _ _ (c.self.invariant.sound.probed.same_length ∙ none))

pub returns-clause-place : goal.returns-clause-place
returns-clause-place g c =
    rw (← c.self.view_is, entries-table_of, ← c.as_slice.ensures.value, ← c.as_slice-2.ensures.value) (FindsPlace-table_of (CalledAt g.F.FnMut) _ _ _ _ _ c.find_cell.ensures.place)

pub returns-clause-value : goal.returns-clause-value
returns-clause-value g c =
    rw (← c.self.view_is, ← c.as_slice.ensures.value, ← c.as_slice-2.ensures.value) (IfSome-table_of (λ value. value.now) _ _ c.find_cell.result c.find_cell.ensures.value)
