use Rattle.std.proofs.Common.{◌∙◌, ap, sym, Some, refl, arith}
use Rattle.iddqd_groups.specs.declared.linked_table.links.Link.{Link}
use Rattle.iddqd_groups.proofs.LinksLemmas.{IsPut-set, filed-taken, hash_of_link, link_read, below-filed_by}
use Rattle.iddqd_groups.proofs.linked_table.links.take.Goals as goal

pub index-link-requires : goal.index-link-requires
index-link-requires c =
    omega (arith, below-filed_by c.args.links.now.items c.args.ix c.requires)

pub index_mut-requires : goal.index_mut-requires
index_mut-requires c =
    omega (arith, below-filed_by c.args.links.now.items c.args.ix c.requires)

pub returns-clause-hash : goal.returns-clause-hash
returns-clause-hash c =
    let links = c.args.links.now.items in
    let within = below-filed_by links c.args.ix c.requires in
    let read =
    link_read links c.place_of-place.result c.args.ix c.index-link.result.now c.place_of-place.ensures within
    c.index-link.ensures in
    hash_of_link links c.args.ix c.requires ∙ ap (λ (l : Link). Some l.hash) (sym read)

pub returns-clause-next_was : goal.returns-clause-next_was
returns-clause-next_was c =
    let links = c.args.links.now.items in
    let within = below-filed_by links c.args.ix c.requires in
    ap (λ (l : Link). l.next) (link_read links c.place_of-place.result c.args.ix c.index-link.result.now
    c.place_of-place.ensures within c.index-link.ensures)

pub returns-clause-prev_was : goal.returns-clause-prev_was
returns-clause-prev_was c =
    let links = c.args.links.now.items in
    let within = below-filed_by links c.args.ix c.requires in
    ap (λ (l : Link). l.prev) (link_read links c.place_of-place.result c.args.ix c.index-link.result.now
    c.place_of-place.ensures within c.index-link.ensures)

pub returns-clause-filed : goal.returns-clause-filed
returns-clause-filed c =
    let links = c.args.links.now.items in
    filed-taken (IsPut-set links c.place_of-place.result c.args.ix _ c.place_of-place.ensures
    (below-filed_by links c.args.ix c.requires)) refl
