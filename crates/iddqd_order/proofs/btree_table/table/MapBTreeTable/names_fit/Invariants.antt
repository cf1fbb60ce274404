use Rattle.iddqd_order.proofs.Names.{ℕ, ◌<◌, ◌≤◌, slice_index, MOST_INDEXES}
use Rattle.iddqd_order.proofs.btree_table.table.MapBTreeTable.names_fit.Given as goal

abbrev pub invariant-loop-name : goal.invariant-loop-name
invariant-loop-name l = (k : ℕ) → k < l.name-index → slice_index l.name-items k ≤ MOST_INDEXES
