use Rattle.std.proofs.Common.{◌≡◌, ◌∙◌, ap, arith}
use Rattle.iddqd_hash.proofs.MemberLemmas.{filed_at}
use Rattle.iddqd_groups.specs.Links.{filed_by, next_of}
use Rattle.iddqd_groups.proofs.LinkLemmas.{stays_filed}
use Rattle.iddqd_groups.proofs.LinksLemmas.{below-filed_by, link_read}
use Rattle.iddqd_groups.proofs.linked_table.insert_behind.Goals as goal

pub index-requires : goal.index-requires
index-requires c =
    let within = below-filed_by c.args.links.now.items c.args.head (filed_at _ _ c.requires.head) in
    omega (arith, within)

pub set_next-requires : goal.set_next-requires
set_next-requires c =
    let within = below-filed_by c.args.links.now.items c.args.head (filed_at _ _ c.requires.head) in
    omega (arith, within)

pub set_prev_if_any-requires-clause-present : goal.set_prev_if_any-requires-clause-present
set_prev_if_any-requires-clause-present c = λ there.
    let old = c.args.links.now.items in
    let head = c.args.head in
    let within = below-filed_by old head (filed_at _ _ c.requires.head) in
    let was : c.index.result.now.next ≡ next_of old head =
    ap (λ l. l.next) (link_read old c.place_of.result head c.index.result.now c.place_of.ensures within
    c.index.ensures) in
    let follower = c.requires.follower (λ none. there (was ∙ none)) in
    rw (c.set_next.ensures.filed, c.put.ensures.filed, was)
    (stays_filed (filed_by old) c.args.ix _ (next_of old head) follower)
