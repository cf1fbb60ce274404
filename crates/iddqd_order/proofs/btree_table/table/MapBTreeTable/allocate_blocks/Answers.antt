use Rattle.std.proofs.Common.{rules}
use Rattle.iddqd_order.proofs.Names.{◌<◌, arith, order_of, IsTree, most_levels}
use Rattle.iddqd_order.specs.MapBTreeTable.{capacity}
use Rattle.iddqd_order.proofs.RoomLemmas.{none-fresh}
use Rattle.iddqd_order.proofs.TableLemmas.{few_blocks}
use Rattle.iddqd_order.proofs.TreeLemmas.{IsTree-low}
use Rattle.iddqd_order.proofs.btree_table.table.MapBTreeTable.allocate_blocks.Goals as goal

pub returns : goal.returns
unfolding order_of capacity
returns c = record {
  few = λ levels.
      let low : c.args.self.now.height < most_levels = rw (← c.self.view_is) (IsTree-low _ _ c.self.invariant.tree) in
      let most = few_blocks c.args.self.now.height c.args.full levels in
      omega arith;
  roomy = λ path goes full levels lt.
      let tree : IsTree c.args.self.now.root c.args.self.now.height = rw (← c.self.view_is) c.self.invariant.tree in
      none-fresh _ _ c.args.self.now.reserved c.args.full path tree goes full levels lt;
  none = search rules;
  blocks = search rules;
}
