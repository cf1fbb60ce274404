use Rattle.uses.specs.Stock.{same_kind}
use Rattle.uses.proofs.ExchangeLemmas.{sets, not_set}
use Rattle.uses.proofs.stock.set.Goals as goal

pub returns-clause-set : goal.returns-clause-set
returns-clause-set c = sets same_kind _ c.args.part c.args.stock.now c.insert_overwrite.new.self c.insert_overwrite.result c.insert_overwrite.ensures.inserts

pub returns-clause-refused : goal.returns-clause-refused
returns-clause-refused c = not_set same_kind _ c.args.part c.args.stock.now c.insert_overwrite.new.self c.insert_overwrite.result c.insert_overwrite.ensures.inserts
