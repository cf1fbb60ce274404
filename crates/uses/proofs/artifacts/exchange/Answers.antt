use Rattle.std.proofs.Common.{false}
use Rattle.iddqd_maps.specs.OneKey.{IsTaken}
use Rattle.uses.specs.Artifacts.{is_called, same_artifact}
use Rattle.uses.proofs.ExchangeLemmas.{exchanges, not_exchanged}
use Rattle.uses.proofs.artifacts.exchange.Goals as goal

pub returns-clause-exchanged : goal.returns-clause-exchanged
returns-clause-exchanged c =
    exchanges same_artifact same_artifact false (IsTaken same_artifact) c.args.artifacts.now c.replace_by.new.self
    (is_called c.args.name.now c.args.version.now) c.args.artifact c.replace_by.result c.replace_by.ensures.replaces

pub returns-clause-refused : goal.returns-clause-refused
returns-clause-refused c =
    not_exchanged same_artifact same_artifact false (IsTaken same_artifact) c.args.artifacts.now c.replace_by.new.self
    (is_called c.args.name.now c.args.version.now) c.args.artifact c.replace_by.result c.replace_by.ensures.replaces
