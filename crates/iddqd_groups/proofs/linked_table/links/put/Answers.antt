use Rattle.std.proofs.Common.{◌∙◌, ap, arith}
use Rattle.iddqd_groups.specs.Links.{filed_by}
use Rattle.iddqd_groups.proofs.LinksLemmas.{IsPut-push, IsPut-set, filed-put}
use Rattle.iddqd_groups.proofs.linked_table.links.put.Goals as goal

pub returns-then-place-len-clause-filed : goal.returns-then-place-len-clause-filed
returns-then-place-len-clause-filed c =
    let links = c.args.links.now.items in
    ap filed_by c.push_reserved.ensures.items
    ∙ filed-put (IsPut-push links c.args.ix c.args.link (omega arith)) c.requires.marks_present

pub returns-else-place-len-clause-filed : goal.returns-else-place-len-clause-filed
returns-else-place-len-clause-filed c =
    let links = c.args.links.now.items in
    filed-put (IsPut-set links c.place_of-place.result c.args.ix c.args.link c.place_of-place.ensures (omega arith))
    c.requires.marks_present
