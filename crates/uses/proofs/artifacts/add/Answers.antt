use Rattle.uses.specs.Artifacts.{same_artifact}
use Rattle.uses.proofs.ExchangeLemmas.{not_added}
use Rattle.uses.proofs.artifacts.add.Goals as goal

pub returns-clause-refused : goal.returns-clause-refused
returns-clause-refused c =
    not_added same_artifact _ c.args.artifact c.args.artifacts.now c.insert_unique.new.self c.insert_unique.result
    c.insert_unique.ensures.inserts
