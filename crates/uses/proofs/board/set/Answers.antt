use Rattle.uses.specs.Scores.{same_hour}
use Rattle.uses.proofs.ExchangeLemmas.{sets, not_set}
use Rattle.uses.proofs.board.set.Goals as goal

pub returns-clause-set : goal.returns-clause-set
returns-clause-set c = sets same_hour _ c.args.score c.args.board.now c.insert_overwrite.new.self c.insert_overwrite.result c.insert_overwrite.ensures.inserts

pub returns-clause-refused : goal.returns-clause-refused
returns-clause-refused c = not_set same_hour _ c.args.score c.args.board.now c.insert_overwrite.new.self c.insert_overwrite.result c.insert_overwrite.ensures.inserts
