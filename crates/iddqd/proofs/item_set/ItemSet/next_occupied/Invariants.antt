use Rattle.std.proofs.Common.{◌≡◌, ◌≤◌, ◌<◌, ℕ, None}
use Rattle.iddqd.specs.Store.{get}
use Rattle.iddqd.proofs.item_set.ItemSet.next_occupied.Given as goal

abbrev pub invariant-loop-at : goal.invariant-loop-at
invariant-loop-at g l = (other : ℕ) → l.fn.from ≤ other → other < l.at → get l.self.store other ≡ None
