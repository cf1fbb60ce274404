use Rattle.iddqd_hash.specs.{filed}
use Rattle.iddqd_groups.proofs.StepLemmas.{AreUnder-first}
use Rattle.iddqd_groups.proofs.linked_table.LinkedTable.first_under.Goals as goal

pub returns : goal.returns
returns c =
    rw (← c.self.view_is)
    (AreUnder-first (filed c.self.inside.heads) c.self.inside.links.items c.self.invariant.linked c.args.hash _ _ c.next.result
    c.indexes_under.ensures c.next.ensures.steps)
