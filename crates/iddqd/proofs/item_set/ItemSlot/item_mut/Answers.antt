use Rattle.std.proofs.Common.{arith}
use Rattle.std.proofs.lemmas.Grind.{common_steps}
use Rattle.iddqd.proofs.item_set.ItemSlot.item_mut.Goals as goal

pub returns : goal.returns
returns g c = grind (arith, common_steps)
