use Rattle.std.proofs.Common.{refl, sym}
use Rattle.iddqd_order.proofs.IndexListLemmas.{Contains-at}
use Rattle.iddqd_order.proofs.btree_table.table.MapBTreeTable.find_own_gap.Goals as goal

pub unreachable-requires : goal.unreachable-requires
unreachable-requires g c =
    let s = c.in-Ok.ensures.ends.searches in
    c.requires.absent (Contains-at _ _ _ s.found (sym (s.itself c.args.ix refl)))

pub returns : goal.returns
returns g c =
    let e = c.in-Err.ensures.ends in
    record { asked = e.searches.asked; fits = e.fits; within = e.searches.missed; place = e.searches.place }
