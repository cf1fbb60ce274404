use Rattle.iddqd_order.proofs.Names.{◌≡◌, ◌++◌, map, take, drop, remapped}
use Rattle.iddqd_order.proofs.btree_table.renaming.rename_row.Given as goal

abbrev pub invariant-loop-i : goal.invariant-loop-i
invariant-loop-i l = l.row ≡ map (remapped l.remap) (take l.i l.initial.row) ++ drop l.i l.initial.row
