use Rattle.std.proofs.Common.{true}
use Rattle.iddqd_maps.specs.OneKey.{IsTaken}
use Rattle.uses.specs.Scores.{same_hour}
use Rattle.uses.proofs.ExchangeLemmas.{not_exchanged_at}
use Rattle.uses.proofs.board.exchange_at.Goals as goal

pub returns-clause-refused : goal.returns-clause-refused
returns-clause-refused c = not_exchanged_at same_hour same_hour true (IsTaken same_hour) c.args.board.now c.replace_at.new.self c.args.ix c.args.score c.replace_at.result c.replace_at.ensures.replaces
