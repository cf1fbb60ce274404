use Rattle.iddqd_order.proofs.Names.{◌≡◌, ◌<◌, ℕ, ◌+◌, ◌*◌, Result, length, slice_index, Descends, flat, IsFormed, CanSearch, most_levels, row_asks}
use Rattle.iddqd_order.proofs.btree_table.node.Node.descend.Given as goal

abbrev pub invariant-loop-i : goal.invariant-loop-i
invariant-loop-i g l = record {
  formed : IsFormed l.level l.node;
  levels : l.level < most_levels;
  path : length l.path ≡ most_levels;
  can_search : CanSearch g.F.FnMut (flat l.level l.node) l.sought l.asking;
  above : l.level < l.full;
  rest : (p : _) (end : Result ℕ ℕ) (new : _)
      → ((m : ℕ) → l.level < m → slice_index p m ≡ slice_index l.path m)
      → Descends g.F.FnMut (g.H.Reads.reading l.how) l.sought (row_asks * (l.level + 1))
      l.full l.level l.node l.asking p end new
      → Descends g.F.FnMut (g.H.Reads.reading l.how) l.sought (row_asks * (l.fn.height + 1))
      (l.fn.height + 1) l.fn.height l.fn.self l.fn.asking p end new;
}

abbrev pub decreases-loop-i : goal.decreases-loop-i
decreases-loop-i g l = l.level
