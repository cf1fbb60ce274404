use Rattle.std.proofs.Common.{◌∙◌, ap, ap₂, min, ◌+◌}
use Rattle.iddqd_groups.specs.LinkedTable.{nexts_of}
use Rattle.iddqd_groups.specs.Links.{filed_by}
use Rattle.iddqd_groups.proofs.LinksLemmas.{filed_by-none}
use Rattle.iddqd_groups.proofs.LinkedSizeLemmas.{IsLinkedTable-none, same_linked}
use Rattle.iddqd_groups.proofs.linked_table.LinkedTable.clear.Goals as goal

pub invariant_of-self : goal.invariant_of-self
invariant_of-self c = IsLinkedTable-none _ _ _ c.clear.ensures.empty c.clear-2.ensures.items

pub returns : goal.returns
returns c =
    rw (← c.self.view_is) (same_linked _ _
    (ap filed_by c.clear-2.ensures.items ∙ filed_by-none)
    (ap nexts_of c.clear-2.ensures.items)
    c.clear-2.ensures.len
    (ap₂ min c.clear.ensures.memory.same_capacity c.clear-2.ensures.capacity)
    (ap₂ ◌+◌ c.clear.ensures.memory.same_memory c.clear-2.ensures.capacity))
