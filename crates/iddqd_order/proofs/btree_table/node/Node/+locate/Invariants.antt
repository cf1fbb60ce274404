use Rattle.iddqd_order.proofs.Names.{◌≡◌, ℕ, ◌-◌, ◌<◌, Contains, length, slice_index, child, flat, most_levels}
use Rattle.iddqd_order.proofs.btree_table.node.Node.+locate.Given as goal

abbrev pub decreases-locate : goal.decreases-locate
decreases-locate l = l.height

abbrev pub invariant-loop-i : goal.invariant-loop-i
invariant-loop-i l = record {
  path : length l.path ≡ most_levels;
  above : (m : ℕ) → l.height < m → slice_index l.path m ≡ slice_index l.fn.path m;
  missing : (k : ℕ) → k < l.i → Contains (flat (l.height - 1) (child l.self k)) l.ix → ⊥;
}
