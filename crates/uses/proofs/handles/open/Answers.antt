use Rattle.uses.specs.Handles.{same_handle}
use Rattle.uses.proofs.ExchangeLemmas.{not_added}
use Rattle.uses.proofs.handles.open.Goals as goal

pub returns-clause-refused : goal.returns-clause-refused
returns-clause-refused c =
    not_added same_handle _ c.args.account c.args.accounts.now c.insert_unique.new.self c.insert_unique.result
    c.insert_unique.ensures.inserts
