use Rattle.std.proofs.Common.{arith}
use Rattle.std.proofs.lemmas.Grind.{common_steps}
use Rattle.iddqd_driver.proofs.keyed_items.KeyedItems.walk.Goals as goal

pub returns-clause-paired : goal.returns-clause-paired
returns-clause-paired g c = grind (arith, common_steps)
