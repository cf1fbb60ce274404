use Rattle.iddqd_order.proofs.Names.{◌<◌, arith, most_levels, order_of}
use Rattle.iddqd_order.proofs.RoomLemmas.{move-few, move-none}
use Rattle.iddqd_order.proofs.TreeLemmas.{IsTree-low}
use Rattle.iddqd_order.proofs.TableLemmas.{index_list}
use Rattle.iddqd_order.proofs.btree_table.table.MapBTreeTable.allocate_move_blocks.Goals as goal

pub overflow_add-count : goal.overflow_add-count
overflow_add-count c = let low = IsTree-low _ _ c.self.invariant.tree in omega arith

pub returns-clause-indexes : goal.returns-clause-indexes
unfolding order_of
returns-clause-indexes c = rw (← c.self.view_is) (index_list _ _ _ c.self.invariant)

pub returns-clause-few : goal.returns-clause-few
returns-clause-few c =
    let low : c.args.self.now.height < most_levels = rw (← c.self.view_is) (IsTree-low _ _ c.self.invariant.tree) in
    move-few c.args.self.now low

pub returns-clause-roomy : goal.returns-clause-roomy
returns-clause-roomy c le = move-none c.args.self.now le
