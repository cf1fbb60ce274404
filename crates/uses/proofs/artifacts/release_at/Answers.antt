use Rattle.std.proofs.Common.{false, rules}
use Rattle.uses.specs.Artifacts.{same_artifact, with_version}
use Rattle.uses.proofs.RemakeLemmas.{missing_at, not_remade_at, remade_at}
use Rattle.uses.proofs.artifacts.release_at.Goals as goal

pub returns-clause-released : goal.returns-clause-released
returns-clause-released c =
    remade_at same_artifact false (with_version c.args.next) c.args.artifacts.now c.remake_at.new.self _ c.args.ix
    c.remake_at.result c.remake_at.ensures.remakes (λ was made met. search rules)

pub returns-clause-missing : goal.returns-clause-missing
returns-clause-missing c =
    missing_at same_artifact false (with_version c.args.next) c.args.artifacts.now c.remake_at.new.self _ c.args.ix
    c.remake_at.result c.remake_at.ensures.remakes

pub returns-clause-refused : goal.returns-clause-refused
returns-clause-refused c =
    not_remade_at same_artifact false (with_version c.args.next) c.args.artifacts.now c.remake_at.new.self _ c.args.ix
    c.remake_at.result c.remake_at.ensures.remakes (λ was made met. search rules)
