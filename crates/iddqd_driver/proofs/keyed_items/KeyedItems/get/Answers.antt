use Rattle.std.proofs.Common.{arith}
use Rattle.std.proofs.lemmas.Grind.{common_steps}
use Rattle.iddqd_driver.proofs.keyed_items.KeyedItems.get.Goals as goal

pub returns : goal.returns
returns g c = grind (arith, common_steps)
