use Rattle.std.proofs.Common.{arith}
use Rattle.iddqd.proofs.SlotLemmas.{IsSoundWithin-none}
use Rattle.iddqd.proofs.item_set.ItemSet.with_limit.Goals as goal

pub invariant_of-result : goal.invariant_of-result
invariant_of-result g c = rw c.new.ensures.items (IsSoundWithin-none c.args.limit (omega arith))
