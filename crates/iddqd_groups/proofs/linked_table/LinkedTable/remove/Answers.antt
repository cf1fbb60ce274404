use Rattle.std.proofs.Common.{ap, arith}
use Rattle.iddqd_hash.specs.{filed}
use Rattle.iddqd_hash.proofs.MemberLemmas.{filed_hash}
use Rattle.std.specs.FinMap as finite
use Rattle.iddqd_groups.specs.Links.{filed_by}
use Rattle.iddqd_groups.proofs.LinkedSizeLemmas.{IsLinkedTable-fewer, len-less}
use Rattle.iddqd_groups.proofs.LinksLemmas.{length-filed_by}
use Rattle.iddqd_groups.proofs.StepLemmas.{behind-apart, behind-removed}
use Rattle.iddqd_groups.proofs.linked_table.LinkedTable.remove.Goals as goal

pub overflow_sub-self : goal.overflow_sub-self
overflow_sub-self c =
    let present = rw (← c.self.view_is) at c.requires in
    let one = len-less (filed_by c.self.inside.links.items) c.args.ix present in
    omega (arith, one, c.self.invariant.counted)

pub invariant_of-self : goal.invariant_of-self
invariant_of-self c =
    let present = rw (← c.self.view_is) at c.requires in
    IsLinkedTable-fewer c.self.invariant c.unlink.ensures.linked c.args.ix present c.unlink.ensures.filed
    (omega (arith, c.self.invariant.roomy, c.unlink.ensures.heads_capacity))
    (omega (arith, c.unlink.ensures.len, c.self.invariant.small))

pub returns-clause-one_less : goal.returns-clause-one_less
returns-clause-one_less c = rw (← c.self.view_is) (
    let present = rw (← c.self.view_is) at c.requires in
    let one = len-less (filed_by c.self.inside.links.items) c.args.ix present in
    omega (arith, one, ap finite.len c.unlink.ensures.filed))

pub returns-clause-holds_all : goal.returns-clause-holds_all
returns-clause-holds_all c = rw (← c.self.view_is) (
    let few = length-filed_by c.self.inside.links.items in
    omega (arith, few, c.self.invariant.counted, c.self.invariant.roomy))

pub returns-clause-behind : goal.returns-clause-behind
returns-clause-behind c =
    let present = rw (← c.self.view_is) at c.requires in
    let (hash, here) = filed_hash _ present in
    rw (← c.self.view_is)
    (behind-removed (filed c.self.inside.heads) c.self.inside.links.items c.self.invariant.linked c.args.ix hash here
    c.unlink.new.links.items (omega (arith, c.unlink.ensures.len)) c.unlink.ensures.next)

pub returns-clause-apart : goal.returns-clause-apart
returns-clause-apart c =
    let present = rw (← c.self.view_is) at c.requires in
    let (hash, here) = filed_hash _ present in
    rw (← c.self.view_is)
    (behind-apart (filed c.self.inside.heads) c.self.inside.links.items c.self.invariant.linked c.args.ix hash here)
