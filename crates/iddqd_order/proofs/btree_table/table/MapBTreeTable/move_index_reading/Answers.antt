use Rattle.std.proofs.Common.{ℕ, ◌∙◌, ap}
use Rattle.iddqd_order.specs.MapBTreeTable.{capacity, capacity_of}
use Rattle.iddqd_order.proofs.MoveLemmas.{absent-without, move-left, asked-both, can-insert_then, puts-then, without-fewer}
use Rattle.iddqd_order.proofs.btree_table.table.MapBTreeTable.move_index_reading.Goals as goal

pub insert_again-requires-clause-absent : goal.insert_again-requires-clause-absent
insert_again-requires-clause-absent g c = rw c.remove_by_search.ensures.removed (absent-without _ _)

pub insert_again-requires-clause-can_ask : goal.insert_again-requires-clause-can_ask
insert_again-requires-clause-can_ask g c =
    rw c.remove_by_search.ensures.removed
    (can-insert_then g.F.FnMut _ _ _ _ c.remove_by_search.ensures.asked c.requires.can_search)

pub insert_again-requires-clause-enough : goal.insert_again-requires-clause-enough
insert_again-requires-clause-enough g c full =
    let left = c.remove_by_search.ensures in
    let fewer = without-fewer _ _ c.requires.stored in
    move-left c.args.self.now _ c.args.ix _ fewer left.removed left.no_higher left.reserved c.requires.enough full

pub returns : goal.returns
unfolding capacity
returns g c =
    let left = c.remove_by_search.ensures in
    let did = c.insert_again.ensures in
    record {
      asked = asked-both g.F.FnMut _ _ left.asked (rw left.removed at did.asked);
      moved = puts-then g.F.FnMut _ _ left.asked (rw left.removed at did.inserted);
      memory = ap (λ (r : ℕ). capacity_of r) (did.reserved ∙ left.reserved);
    }
