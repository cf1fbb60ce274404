use Rattle.std.proofs.Common.{◌∙◌, ap, arith}
use Rattle.iddqd_groups.specs.LinkedTable.{nexts_of}
use Rattle.iddqd_groups.specs.Links.{filed_by}
use Rattle.iddqd_groups.proofs.LinksLemmas.{filed_by-none}
use Rattle.iddqd_groups.proofs.LinkedSizeLemmas.{IsLinkedTable-none, same_linked}
use Rattle.iddqd_groups.proofs.linked_table.LinkedTable.new.Goals as goal

pub invariant_of-result : goal.invariant_of-result
invariant_of-result c = IsLinkedTable-none _ _ _ c.new.ensures.empty c.new-2.ensures.items

pub returns : goal.returns
returns c =
    same_linked _ _
    (ap filed_by c.new-2.ensures.items ∙ filed_by-none)
    (ap nexts_of c.new-2.ensures.items)
    c.new-2.ensures.len
    (omega (arith, c.new-2.ensures.capacity))
    (omega (arith, c.new.ensures.memory.no_cell, c.new-2.ensures.capacity))
