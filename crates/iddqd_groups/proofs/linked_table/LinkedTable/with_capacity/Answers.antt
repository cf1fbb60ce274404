use Rattle.std.proofs.Common.{◌∙◌, ap}
use Rattle.iddqd_groups.specs.Links.{filed_by}
use Rattle.iddqd_groups.proofs.LinksLemmas.{filed_by-none}
use Rattle.iddqd_groups.proofs.LinkedSizeLemmas.{IsLinkedTable-none}
use Rattle.iddqd_groups.proofs.linked_table.LinkedTable.with_capacity.Goals as goal

pub invariant_of-result : goal.invariant_of-result
invariant_of-result c =
    IsLinkedTable-none _ _ _ c.in_ok-with_capacity.ensures.empty c.in_ok-with_capacity-2.ensures.items

pub returns-clause-empty : goal.returns-clause-empty
returns-clause-empty c = ap filed_by c.in_ok-with_capacity-2.ensures.items ∙ filed_by-none
