use Rattle.std.proofs.Common.{false, rules}
use Rattle.uses.specs.Artifacts.{is_called, same_artifact, with_version}
use Rattle.uses.proofs.RemakeLemmas.{gone, missing, not_remade, remade}
use Rattle.uses.proofs.artifacts.release.Goals as goal

pub returns-clause-released : goal.returns-clause-released
returns-clause-released c =
    remade same_artifact false (with_version c.args.next) c.args.artifacts.now c.remake_by.new.self _
    (is_called c.args.name.now c.args.version.now) c.remake_by.result c.remake_by.ensures.remakes
    (λ was made met. search rules)

pub returns-clause-missing : goal.returns-clause-missing
returns-clause-missing c =
    missing same_artifact false (with_version c.args.next) c.args.artifacts.now c.remake_by.new.self _
    (is_called c.args.name.now c.args.version.now) c.remake_by.result c.remake_by.ensures.remakes

pub returns-clause-refused : goal.returns-clause-refused
returns-clause-refused c =
    not_remade same_artifact false (with_version c.args.next) c.args.artifacts.now c.remake_by.new.self _
    (is_called c.args.name.now c.args.version.now) c.remake_by.result c.remake_by.ensures.remakes
    (λ was made met. search rules)

pub returns-clause-gone : goal.returns-clause-gone
returns-clause-gone c =
    gone same_artifact false (with_version c.args.next) c.args.artifacts.now c.remake_by.new.self _
    (is_called c.args.name.now c.args.version.now) c.remake_by.result c.remake_by.ensures.remakes
