-- For callers. A descent leads where it led while the table keeps its tree, whatever memory it has.
use Rattle.iddqd_order.proofs.Names.{◌≡◌, ℕ, ◌+◌}
use Rattle.iddqd_order.specs.MapBTreeTable.{HasSameTree, Order}
use Rattle.iddqd_order.specs.Stepping.{HasGap, gap_behind, low_in}
use Rattle.iddqd_order.specs.declared.btree_table.stepping.Descent.{Descent}

pub HasGap-same : (t u : Order) (leaf : Descent) (i : ℕ) → HasSameTree t u → HasGap t leaf i → HasGap u leaf i
HasGap-same t u leaf i same gap = record {
  is_node = rw (same.root, same.height) gap.is_node;
  level = gap.level;
  place = rw (same.root, same.height) gap.place;
}

pub gap_behind-same :
    (t u : Order) (leaf : Descent) (i : ℕ)
    → HasSameTree t u
    → gap_behind u leaf i ≡ gap_behind t leaf i
gap_behind-same t u leaf i same = λ j. low_in leaf.level (same.root j) (same.height j) leaf.path + i

pub same-itself : (t : Order) → HasSameTree t t
same-itself t = record { root = λ _. t.root; height = λ _. t.height }
