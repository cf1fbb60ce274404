use Rattle.std.proofs.Common.{false}
use Rattle.iddqd_maps.specs.OneKey.{IsTaken}
use Rattle.uses.specs.Stock.{has_kind, same_kind}
use Rattle.uses.proofs.ExchangeLemmas.{exchanges, not_exchanged}
use Rattle.uses.proofs.stock.exchange.Goals as goal

pub returns-clause-exchanged : goal.returns-clause-exchanged
returns-clause-exchanged c = exchanges same_kind same_kind false (IsTaken same_kind) c.args.stock.now c.replace.new.self (has_kind c.args.kind) c.args.part c.replace.result c.replace.ensures.replaces

pub returns-clause-refused : goal.returns-clause-refused
returns-clause-refused c = not_exchanged same_kind same_kind false (IsTaken same_kind) c.args.stock.now c.replace.new.self (has_kind c.args.kind) c.args.part c.replace.result c.replace.ensures.replaces
