use Rattle.std.proofs.Common.{false}
use Rattle.iddqd_maps.specs.OneKey.{IsTaken}
use Rattle.uses.specs.Stock.{same_kind}
use Rattle.uses.proofs.ExchangeLemmas.{not_exchanged_at}
use Rattle.uses.proofs.stock.exchange_at.Goals as goal

pub returns-clause-refused : goal.returns-clause-refused
returns-clause-refused c = not_exchanged_at same_kind same_kind false (IsTaken same_kind) c.args.stock.now c.replace_at.new.self c.args.ix c.args.part c.replace_at.result c.replace_at.ensures.replaces
