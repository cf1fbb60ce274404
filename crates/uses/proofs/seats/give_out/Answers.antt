use Rattle.uses.specs.Seats.{share_key}
use Rattle.uses.proofs.ExchangeLemmas.{takes_over, not_taken_over}
use Rattle.uses.proofs.seats.give_out.Goals as goal

pub returns-clause-given : goal.returns-clause-given
returns-clause-given c = takes_over share_key _ 3 c.args.seat c.args.seats.now c.insert_overwrite.new.self c.insert_overwrite.result c.insert_overwrite.ensures.inserts

pub returns-clause-refused : goal.returns-clause-refused
returns-clause-refused c = not_taken_over share_key _ 3 c.args.seat c.args.seats.now c.insert_overwrite.new.self c.insert_overwrite.result c.insert_overwrite.ensures.inserts
