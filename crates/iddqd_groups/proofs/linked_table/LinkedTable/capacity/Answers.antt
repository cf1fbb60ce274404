use Rattle.std.proofs.Common.{arith}
use Rattle.iddqd_groups.proofs.LinksLemmas.{length-filed_by}
use Rattle.iddqd_groups.proofs.linked_table.LinkedTable.capacity.Goals as goal

pub returns-clause-holds_all : goal.returns-clause-holds_all
returns-clause-holds_all c =
    rw (← c.self.view_is) (omega (
      arith,
      c.self.invariant.counted,
      c.self.invariant.roomy,
      length-filed_by c.self.inside.links.items,
      c.capacity.ensures.value,
      c.capacity-2.ensures,
      c.min.ensures,
    ))
