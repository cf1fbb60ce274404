use Rattle.std.proofs.Common.{◌<◌, ap, arith, length}
use Rattle.iddqd_groups.proofs.LinksLemmas.{IsPut-set, filed-kept, hash_in, link_read}
use Rattle.iddqd_groups.proofs.linked_table.links.set_next.Goals as goal

pub returns-clause-filed : goal.returns-clause-filed
returns-clause-filed c =
    let links = c.args.links.now.items in
    let ix = c.args.ix in
    let place = c.place_of.result in
    let was = c.index_mut.result.now in
    let within : ix < length links = omega arith in
    let read = link_read links place ix was c.place_of.ensures within c.index_mut.ensures.value in
    filed-kept (IsPut-set links place ix _ c.place_of.ensures within) (ap (λ l. hash_in l ix) read)
