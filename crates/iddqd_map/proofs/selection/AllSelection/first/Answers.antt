use Rattle.std.proofs.Common.{Some, None, subst}
use Rattle.iddqd.specs.Reads.{IsNextLive}
use Rattle.iddqd_map.proofs.SelectionLemmas.{live-first}
use Rattle.iddqd_map.proofs.selection.AllSelection.first.Goals as goal

pub returns-in_err-first-clause-listed : goal.returns-in_err-first-clause-listed
returns-in_err-first-clause-listed g c =
    let s = c.args.items.now.store in
    let is : IsNextLive s 0 c.next_occupied.result = rw c.new.ensures at c.next_occupied.ensures in
    rw c.from_residual.ensures (live-first s None (subst (IsNextLive s 0) (c.in_err-first.was) is))

pub returns-clause-listed : goal.returns-clause-listed
returns-clause-listed g c =
    let s = c.args.items.now.store in
    let is : IsNextLive s 0 c.next_occupied.result = rw c.new.ensures at c.next_occupied.ensures in
    live-first s (Some c.in_ok-first.first) (subst (IsNextLive s 0) (c.in_ok-first.was) is)
