use Rattle.std.proofs.Common.{◌≡◌, ℕ, Some}
use Rattle.std.specs.List.{Contains}
use Rattle.iddqd.specs.{get}
use Rattle.iddqd_examples.specs.declared.driver.pair.Pair.{Pair}
use Rattle.iddqd_examples.proofs.driver.whole.index_of.Given as goal

-- the pairs to come are those at their indexes
abbrev pub invariant-loop-ix : goal.invariant-loop-ix
invariant-loop-ix l = record {
  live : (ix : ℕ) (pair : Pair) → Contains l.ix-iterator (ix, pair) → get l.fn.pairs.state.store ix ≡ Some pair;
}
