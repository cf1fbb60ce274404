use Rattle.std.proofs.Common.{ℕ, ◌∙◌, refl, ap}
use Rattle.iddqd_order.specs.MapBTreeTable.{capacity, capacity_of}
use Rattle.iddqd_order.specs.PreparedBTreeMove.{index_of}
use Rattle.iddqd_order.proofs.MoveLemmas.{absent-without, move-enough, asked-both, can-insert_then, puts-then}
use Rattle.iddqd_order.proofs.btree_table.prepared_move.PreparedBTreeMove.commit.Goals as goal

pub insert_again-requires-clause-absent : goal.insert_again-requires-clause-absent
insert_again-requires-clause-absent g c = rw c.remove_by_search.ensures.removed (absent-without _ _)

pub insert_again-requires-clause-can_ask : goal.insert_again-requires-clause-can_ask
unfolding index_of
insert_again-requires-clause-can_ask g c =
    rw c.remove_by_search.ensures.removed
    (can-insert_then g.F.FnMut _ _ _ _ c.remove_by_search.ensures.asked c.requires)

pub returns : goal.returns
unfolding index_of capacity
returns g c =
    let left = c.remove_by_search.ensures in
    let did = c.insert_again.ensures in
    record {
      same_reference = refl;
      asked = asked-both g.F.FnMut _ _ left.asked (rw left.removed at did.asked);
      moved = puts-then g.F.FnMut _ _ left.asked (rw left.removed at did.inserted);
      memory = ap (λ (r : ℕ). capacity_of r) (did.reserved ∙ left.reserved);
    }

pub insert_again-requires-clause-enough : goal.insert_again-requires-clause-enough
insert_again-requires-clause-enough g c full =
    let left = c.remove_by_search.ensures in
    move-enough c.args.self.table.now _ c.args.self.ix _ c.args.self.stored left.removed left.no_higher left.reserved c.args.self.as_many full
