use Rattle.std.proofs.Common.{arith}
use Rattle.iddqd.specs.Store.{slot_limit}
use Rattle.iddqd.proofs.StoreLemmas.{IsValid-empty}
use Rattle.iddqd_map.proofs.map.Map.with_capacity_and_hasher.Goals as goal

pub invariant_of-result : goal.invariant_of-result
invariant_of-result g c = record {
  valid = rw c.in_ok-with_capacity.ensures.contents (IsValid-empty slot_limit (omega arith));
  indexed = rw c.in_ok-with_capacity.ensures.contents (c.in_ok-with_capacity-2.ensures.none c.args.state slot_limit);
}
