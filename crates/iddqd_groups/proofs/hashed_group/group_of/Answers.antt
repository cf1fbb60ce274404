use Rattle.iddqd_groups.proofs.GroupLemmas.{IsGroupOf-under, live_under}
use Rattle.iddqd_groups.proofs.hashed_group.group_of.Goals as goal

pub invariant_of-result : goal.invariant_of-result
invariant_of-result g c =
    live_under c.args.items.now.store c.args.table.now.filed _ _ c.indexes_under.ensures.under c.requires

pub returns-clause-group : goal.returns-clause-group
returns-clause-group g c = IsGroupOf-under _ _ _ _ _ _ c.indexes_under.ensures.under
