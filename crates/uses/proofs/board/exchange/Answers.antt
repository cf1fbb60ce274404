use Rattle.std.proofs.Common.{true}
use Rattle.iddqd_maps.specs.OneKey.{IsTaken}
use Rattle.uses.specs.Scores.{has_hour, same_hour}
use Rattle.uses.proofs.ExchangeLemmas.{exchanges, not_exchanged}
use Rattle.uses.proofs.board.exchange.Goals as goal

pub returns-clause-exchanged : goal.returns-clause-exchanged
returns-clause-exchanged c = exchanges same_hour same_hour true (IsTaken same_hour) c.args.board.now c.replace.new.self (has_hour c.args.hour) c.args.score c.replace.result c.replace.ensures.replaces

pub returns-clause-refused : goal.returns-clause-refused
returns-clause-refused c = not_exchanged same_hour same_hour true (IsTaken same_hour) c.args.board.now c.replace.new.self (has_hour c.args.hour) c.args.score c.replace.result c.replace.ensures.replaces
