use Rattle.std.proofs.Common.{arith}
use Rattle.iddqd_groups.proofs.LinkedSizeLemmas.{len-heads, IsLinkedTable-added}
use Rattle.iddqd_groups.proofs.LinksLemmas.{length-filed_by}
use Rattle.iddqd_groups.proofs.linked_table.LinkedTable.insert.Goals as goal

pub link-requires-clause-room : goal.link-requires-clause-room
link-requires-clause-room c =
    let roomy = rw (← c.self.view_is) at c.requires.room in
    let fewer = len-heads c.self.invariant.linked in
    omega (arith, roomy, fewer)

pub link-requires-clause-in_turn : goal.link-requires-clause-in_turn
link-requires-clause-in_turn c =
    let in_turn = rw (← c.self.view_is) at c.requires.in_turn in
    let few = length-filed_by c.self.inside.links.items in
    grind (arith, in_turn, few)

pub invariant_of-self : goal.invariant_of-self
invariant_of-self c =
    let roomy = rw (← c.self.view_is) at c.requires.room in
    let new = rw (← c.self.view_is) at c.requires.new in
    IsLinkedTable-added c.self.invariant c.link.ensures.linked c.args.ix c.args.hash new c.link.ensures.filed
    (omega (arith, roomy, c.self.invariant.counted, c.link.ensures.heads_capacity))
    (omega (arith, c.link.ensures.len, c.self.invariant.small, c.requires.not_sentinel))
