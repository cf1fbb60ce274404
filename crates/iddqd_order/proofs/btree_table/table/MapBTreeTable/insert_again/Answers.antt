use Rattle.iddqd_order.proofs.RoomLemmas.{enough-blocks}
use Rattle.iddqd_order.proofs.btree_table.table.MapBTreeTable.insert_again.Goals as goal

pub insert_at-requires-clause-enough : goal.insert_at-requires-clause-enough
insert_at-requires-clause-enough g c =
    let gap = c.find_own_gap-gap.ensures in
    enough-blocks c.args.self.now _ _ _ gap.fits.tree gap.fits.goes gap.fits.full gap.fits.levels c.requires.enough

pub returns-clause-inserted : goal.returns-clause-inserted
returns-clause-inserted g c =
    let gap = c.find_own_gap-gap.ensures in
    record { place = _; within = gap.within; inserted = c.insert_at.ensures.inserted; belongs = gap.place }

pub find_own_gap-gap-requires-clause-absent : goal.find_own_gap-gap-requires-clause-absent
find_own_gap-gap-requires-clause-absent g c = c.requires.absent

pub find_own_gap-gap-requires-clause-can_ask : goal.find_own_gap-gap-requires-clause-can_ask
find_own_gap-gap-requires-clause-can_ask g c = c.requires.can_ask

pub insert_at-requires-clause-absent : goal.insert_at-requires-clause-absent
insert_at-requires-clause-absent g c = c.requires.absent
