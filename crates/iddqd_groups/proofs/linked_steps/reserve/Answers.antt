use Rattle.std.proofs.Common.{◌≤◌, ◌+◌, OnOk, arith, subst}
use Rattle.iddqd_groups.specs.LinkedTable.{most_linked}
use Rattle.iddqd_by_hash.proofs.HashedCountLemmas.{len-held}
use Rattle.iddqd_groups.proofs.linked_steps.reserve.Goals as goal

pub returns-clause-reserved : goal.returns-clause-reserved
returns-clause-reserved g c =
    let counted = len-held c.args.items.now.store c.args.table.now.filed c.requires in
    subst (λ n. OnOk c.try_reserve.result (n + c.args.additional ≤ c.try_reserve.new.self.capacity)) counted
    c.try_reserve.ensures.reserved

pub returns-clause-had_room : goal.returns-clause-had_room
returns-clause-had_room g c = λ roomy.
    let counted = len-held c.args.items.now.store c.args.table.now.filed c.requires in
    c.try_reserve.ensures.had_room (omega (arith, roomy, counted))

pub returns-clause-few : goal.returns-clause-few
returns-clause-few g c =
    let counted = len-held c.args.items.now.store c.args.table.now.filed c.requires in
    subst (λ n. c.try_reserve.new.self.memory ≤ c.args.table.now.memory + most_linked (n + c.args.additional)) counted
    c.try_reserve.ensures.few
