use Rattle.iddqd_order.proofs.Names.{◌≡◌, ◌≢◌, ◌<◌, ◌≤◌, ℕ, None, length, slice_index, flat, leaf, leaf_parent, IsFormed, CanSearch, most_levels}
use Rattle.iddqd_order.specs.Descent.{Seeks}
use Rattle.iddqd_order.proofs.btree_table.node.Node.seek.Given as goal

abbrev pub invariant-loop-i : goal.invariant-loop-i
invariant-loop-i g l = record {
  formed : IsFormed l.level l.node;
  low : l.level ≤ l.fn.height;
  path : length l.path ≡ most_levels;
  can_search : CanSearch g.F.FnMut (flat l.level l.node) None l.asking;
  rest : (p : _) (new : _)
      → ((m : ℕ) → l.level < m → slice_index p m ≡ slice_index l.path m)
      → Seeks g.F.FnMut (g.H.Reads.reading l.how) None l.level l.node l.asking p new
      → Seeks g.F.FnMut (g.H.Reads.reading l.how) None l.fn.height l.fn.self l.fn.asking p new;
  leaf_is : (p : _)
      → ((m : ℕ) → l.level < m → slice_index p m ≡ slice_index l.path m)
      → leaf l.fn.height l.fn.self p ≡ leaf l.level l.node p;
  above : (p : _)
      → ((m : ℕ) → l.level < m → slice_index p m ≡ slice_index l.path m)
      → (l.level ≢ 0 → leaf_parent l.fn.height l.fn.self p ≡ leaf_parent l.level l.node p);
  parent : (p : _)
      → ((m : ℕ) → l.level < m → slice_index p m ≡ slice_index l.path m)
      → l.level ≡ 0
      → leaf_parent l.fn.height l.fn.self p ≡ l.above;
}

abbrev pub decreases-loop-i : goal.decreases-loop-i
decreases-loop-i g l = l.level
