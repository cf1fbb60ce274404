use Rattle.iddqd_groups.proofs.StepLemmas.{hits_behind-removed}
use Rattle.iddqd_groups.proofs.group_steps.take_in_group.Goals as goal

pub returns-clause-next : goal.returns-clause-next
returns-clause-next g c =
    hits_behind-removed c.args.table.now c.remove.new.self c.args.items.now.store
    (g.Q.ItemHashQuery.stands_for_item c.args.query.now) c.args.ix c.next_in_group-next.result c.remove.ensures.behind
    c.remove.ensures.apart c.next_in_group-next.ensures
