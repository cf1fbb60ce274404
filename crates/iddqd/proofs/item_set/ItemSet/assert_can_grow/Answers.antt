use Rattle.std.proofs.Common.{arith}
use Rattle.std.proofs.lemmas.Grind.{common_steps}
use Rattle.iddqd.proofs.item_set.ItemSet.assert_can_grow.Goals as goal

pub returns : goal.returns
returns g c = grind (arith, common_steps)
