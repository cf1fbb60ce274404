use Rattle.iddqd_order.proofs.Names.{◌≡◌, ◌∙◌, Some, sym, order_of}
use Rattle.iddqd_order.proofs.SpotLemmas.{behind-read}
use Rattle.iddqd_order.proofs.TreeLemmas.{place_in-within}
use Rattle.iddqd_order.proofs.btree_table.table.MapBTreeTable.behind.Goals as goal

pub returns-clause-next : goal.returns-clause-next
unfolding order_of
returns-clause-next c =
    let t = c.tree-height.ensures in
    let is : c.args.self.now.root ≡ Some c.in-Some.node = sym t.root ∙ c.in-Some.is in
    let tree = rw is at t.tree in
    rw (is, ← t.height) (behind-read c.tree-height.result.1 c.in-Some.node c.args.path.now c.behind.result (rw t.height tree.0) c.behind.ensures.found c.behind.ensures.ended)

pub returns-clause-within : goal.returns-clause-within
unfolding order_of
returns-clause-within c = place_in-within _ _ _ c.tree-height.ensures.tree c.requires
