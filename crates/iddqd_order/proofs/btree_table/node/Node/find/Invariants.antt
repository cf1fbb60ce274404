use Rattle.iddqd_order.proofs.Names.{ℕ, Option, None, FindsIn, flat, IsFormed, CanSearch}
use Rattle.iddqd_order.proofs.btree_table.node.Node.find.Given as goal

abbrev pub invariant-loop-i : goal.invariant-loop-i
invariant-loop-i g l = record {
  formed : IsFormed l.level l.node;
  can_search : CanSearch g.F.FnMut (flat l.level l.node) None l.asking;
  rest : (found : Option ℕ) (new : _)
      → FindsIn g.F.FnMut (g.H.Reads.reading l.how) None l.level l.node l.asking found new
      → FindsIn g.F.FnMut (g.H.Reads.reading l.how) None l.fn.height l.fn.self l.fn.asking found new;
}

abbrev pub decreases-loop-i : goal.decreases-loop-i
decreases-loop-i g l = l.level
