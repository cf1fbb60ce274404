use Rattle.iddqd_order.proofs.Names.{◌<◌, ◌≤◌, ◌+◌, ◌*◌, ℕ, gap_of, in_order, Stands}
use Rattle.iddqd_order.specs.Nearby.{Advances}
use Rattle.iddqd_order.proofs.btree_table.cursor.Cursor.seek_near.Given as goal

abbrev pub invariant-loop-height : goal.invariant-loop-height
invariant-loop-height g l = record {
  stands : Stands l.root l.height l.self;
  ahead : gap_of l.root l.height l.fn.self ≤ gap_of l.root l.height l.self;
  some : 0 < l.left;
  advanced : (limit : ℕ) × (limit + 2 * l.left ≤ 2 * l.leaves + 1)
      × Advances g.F.FnMut (g.H.Reads.reading l.how) (in_order l.root l.height) limit
      (gap_of l.root l.height l.self) l.fn.asking l.asking;
}

abbrev pub decreases-loop-height : goal.decreases-loop-height
decreases-loop-height g l = l.left
