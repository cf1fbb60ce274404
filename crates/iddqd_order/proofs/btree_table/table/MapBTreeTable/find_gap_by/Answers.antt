use Rattle.std.proofs.Common.{refl}
use Rattle.iddqd_order.proofs.IndexListLemmas.{Contains-at}
use Rattle.iddqd_order.proofs.SearchLemmas.{none_at_place}
use Rattle.iddqd_order.proofs.btree_table.table.MapBTreeTable.find_gap_by.Goals as goal

pub returns-in-Ok : goal.returns-in-Ok
returns-in-Ok g c =
    let s = c.in-Ok.ensures.ends.searches in
    (s.asked, record { stored = rw c.index_at.ensures (Contains-at _ _ _ s.found refl); hit = λ answer steady. rw c.index_at.ensures (s.hit answer steady) })

pub returns-in-Err : goal.returns-in-Err
returns-in-Err g c =
    let e = c.in-Err.ensures.ends in
    let s = e.searches in (
      s.asked,
      record {
        fits = e.fits;
        within = s.missed;
        place = s.place;
        miss = λ answer rises. none_at_place answer _ _ (s.place answer rises);
      },
    )
