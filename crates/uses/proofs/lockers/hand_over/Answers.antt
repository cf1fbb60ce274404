use Rattle.uses.specs.Lockers.{share_key}
use Rattle.uses.proofs.ExchangeLemmas.{takes_over, not_taken_over}
use Rattle.uses.proofs.lockers.hand_over.Goals as goal

pub returns-clause-handed : goal.returns-clause-handed
returns-clause-handed c = takes_over share_key _ 2 c.args.locker c.args.lockers.now c.insert_overwrite.new.self c.insert_overwrite.result c.insert_overwrite.ensures.inserts

pub returns-clause-refused : goal.returns-clause-refused
returns-clause-refused c = not_taken_over share_key _ 2 c.args.locker c.args.lockers.now c.insert_overwrite.new.self c.insert_overwrite.result c.insert_overwrite.ensures.inserts
