use Rattle.std.proofs.Common.{refl}
use Rattle.iddqd_map.specs.OneKeyLaws.{reported_one, few_one}
use Rattle.iddqd_ord_map.proofs.by_order.ByOrderOfChanges.next_reported.Goals as goal

pub returns-clause-reported : goal.returns-clause-reported
returns-clause-reported g c = λ s item is ix. reported_one s _ c.args.conflict.now is ix

pub returns-clause-some : goal.returns-clause-some
returns-clause-some g c = λ s item is. (c.args.conflict.now, refl)

pub returns-clause-few : goal.returns-clause-few
returns-clause-few g c = few_one c.args.conflict.now
