use Rattle.iddqd_order.proofs.Names.{Ordering, ◌-◌, ℕ, ◌+◌, ◌≤◌, length, AsksWithin, Askable, IsSteadyRising, with_ties, digits}
use Rattle.iddqd_order.proofs.SearchLemmas.{AreSplit}
use Rattle.iddqd_order.proofs.btree_table.search.search.Given as goal

abbrev pub invariant-loop-low : goal.invariant-loop-low
invariant-loop-low g l = record {
  ordered : l.low ≤ l.high;
  within : l.high ≤ length l.items;
  asked : (k : ℕ) × (k + digits (l.high - l.low) ≤ digits (length l.items))
      × AsksWithin g.F.FnMut (Askable l.items l.sought) k l.fn.asking l.asking;
  split : (answer : ℕ → Ordering)
      → IsSteadyRising g.F.FnMut l.items l.sought (g.H.Reads.reading l.how) answer l.fn.asking
      → AreSplit (with_ties l.sought answer) l.items l.low l.high;
}

abbrev pub decreases-loop-low : goal.decreases-loop-low
decreases-loop-low g l = l.high - l.low
