use Rattle.std.proofs.Common.{arith}
use Rattle.std.proofs.lemmas.Grind.{common_steps}
use Rattle.iddqd.proofs.LiveItemLemmas.{items_of_pairs}
use Rattle.iddqd.proofs.item_set.ItemSet.values.Goals as goal

pub returns-clause-items : goal.returns-clause-items
returns-clause-items g c = rw c.iter.ensures.pairs (items_of_pairs 0 c.args.self.now.store.items)

pub returns-clause-len : goal.returns-clause-len
returns-clause-len g c = grind (arith, common_steps)
