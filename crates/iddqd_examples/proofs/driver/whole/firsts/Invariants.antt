use Rattle.std.proofs.Common.{◌≡◌, ◌+◌, ◌≤◌, ◌++◌, map, length, vec_len, vec_capacity}
use Rattle.iddqd.specs.{live_items}
use Rattle.iddqd_examples.proofs.driver.whole.firsts.Given as goal

-- the numbers so far and those to come, for which there is room
abbrev pub invariant-loop-pair : goal.invariant-loop-pair
invariant-loop-pair l = record {
  whole :
      l.firsts.items ++ map (λ pair. pair.0) l.pair-iterator
      ≡ map (λ pair. pair.0) (live_items l.fn.pairs.state.store);
  room : vec_len l.firsts + length l.pair-iterator ≤ vec_capacity l.firsts;
}
