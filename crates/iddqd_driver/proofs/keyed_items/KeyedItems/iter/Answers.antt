use Rattle.std.proofs.Common.{arith}
use Rattle.std.proofs.lemmas.Grind.{common_steps}
use Rattle.iddqd_driver.proofs.keyed_items.KeyedItems.iter.Goals as goal

pub returns-clause-walk : goal.returns-clause-walk
returns-clause-walk g c = grind (arith, common_steps)
