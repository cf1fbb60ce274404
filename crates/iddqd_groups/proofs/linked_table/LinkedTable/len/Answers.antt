use Rattle.std.proofs.Common.{arith}
use Rattle.iddqd_groups.proofs.LinksLemmas.{length-filed_by}
use Rattle.iddqd_groups.proofs.linked_table.LinkedTable.len.Goals as goal

pub returns-clause-fits : goal.returns-clause-fits
returns-clause-fits c =
    rw (← c.self.view_is) (omega (arith, c.self.invariant.counted, length-filed_by c.self.inside.links.items))
