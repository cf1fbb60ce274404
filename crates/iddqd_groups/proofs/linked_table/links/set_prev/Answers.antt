use Rattle.std.proofs.Common.{ap, arith}
use Rattle.iddqd_groups.proofs.LinksLemmas.{IsPut-set, filed-kept_hash, prev-put, link_read, below-filed_by}
use Rattle.iddqd_groups.proofs.linked_table.links.set_prev.Goals as goal

pub index_mut-requires : goal.index_mut-requires
index_mut-requires c =
    omega (arith, below-filed_by c.args.links.now.items c.args.ix c.requires.present)

pub returns-clause-filed : goal.returns-clause-filed
returns-clause-filed c =
    let links = c.args.links.now.items in
    let ix = c.args.ix in
    let place = c.place_of.result in
    let was = c.index_mut.result.now in
    let within = below-filed_by links ix c.requires.present in
    let read = link_read links place ix was c.place_of.ensures within c.index_mut.ensures.value in
    filed-kept_hash (IsPut-set links place ix _ c.place_of.ensures within) c.requires.present c.requires.other
    (ap (λ l. l.hash) read)

pub returns-clause-prev : goal.returns-clause-prev
returns-clause-prev c =
    let links = c.args.links.now.items in
    let ix = c.args.ix in
    let within = below-filed_by links ix c.requires.present in
    prev-put (IsPut-set links c.place_of.result ix _ c.place_of.ensures within)
