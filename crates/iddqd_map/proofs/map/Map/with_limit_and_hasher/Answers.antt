use Rattle.std.proofs.Common.{ap, arith}
use Rattle.iddqd.specs.ItemSet.{SizedStore}
use Rattle.iddqd_map.proofs.MapLemmas.{IsIndexed-empty}
use Rattle.iddqd_map.proofs.map.Map.with_limit_and_hasher.Goals as goal

pub invariant_of-result : goal.invariant_of-result
invariant_of-result g c =
    IsIndexed-empty _ c.args.state c.args.limit c.with_limit.result.store (omega arith) (ap (λ (s : SizedStore _). s.store) c.with_limit.ensures) c.new.ensures.none
