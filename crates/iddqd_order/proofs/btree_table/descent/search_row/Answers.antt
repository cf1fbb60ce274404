use Rattle.iddqd_order.proofs.Names.{◌≤◌, length, arith}
use Rattle.iddqd_order.proofs.DigitLemmas.{four_digits}
use Rattle.iddqd_order.proofs.PartLemmas.{SearchesWithin-more}
use Rattle.iddqd_order.proofs.btree_table.descent.search_row.Goals as goal

pub search-requires-clause-each : goal.search-requires-clause-each
search-requires-clause-each g c = rw c.as_slice-items.ensures c.requires.each

pub search-requires-clause-again : goal.search-requires-clause-again
search-requires-clause-again g c = rw c.as_slice-items.ensures c.requires.again

pub returns : goal.returns
returns g c =
    let few = c.len-few.ensures.within in
    rw c.as_slice-items.ensures at (SearchesWithin-more g.F.FnMut (g.H.Reads.reading c.args.how.now) c.args.sought.now (four_digits _ (let most : length c.args.row.now ≤ 15 = omega arith in rw c.as_slice-items.ensures most)) c.search.ensures)
