use Rattle.iddqd_order.specs.Cursor.{Stands, gap_of}
use Rattle.iddqd_order.specs.Tree.{in_order}
use Rattle.iddqd_order.proofs.ReadLemmas.{HasRead}
use Rattle.iddqd_order.proofs.btree_table.cursor.Cursor.read.Given as goal

abbrev pub invariant-loop-at : goal.invariant-loop-at
invariant-loop-at l =
    Stands l.fn.root l.fn.height l.self
    × HasRead l.fn.towards (in_order l.fn.root l.fn.height) (gap_of l.fn.root l.fn.height l.fn.self) l.at l.fn.numbers
    l.numbers (gap_of l.fn.root l.fn.height l.self)
