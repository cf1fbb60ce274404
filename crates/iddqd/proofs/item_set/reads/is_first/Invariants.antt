use Rattle.std.proofs.Common.{◌≢◌, ◌<◌, ℕ, slice_index}
use Rattle.iddqd.proofs.item_set.reads.is_first.Given as goal

abbrev pub invariant-loop-before : goal.invariant-loop-before
invariant-loop-before l = (other : ℕ) → other < l.before → slice_index l.indexes other ≢ slice_index l.indexes l.place
