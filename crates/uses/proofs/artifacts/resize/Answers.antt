use Rattle.std.proofs.Common.{rules}
use Rattle.uses.specs.Artifacts.{is_called, with_size}
use Rattle.uses.proofs.UpdateLemmas.{updates}
use Rattle.uses.proofs.artifacts.resize.Goals as goal

pub returns : goal.returns
returns c =
    updates _ _ (with_size c.args.size) (λ artifact left r called. search rules)
    c.args.artifacts.now c.modify_by.new.self (is_called c.args.name.now c.args.version.now)
    c.modify_by.result c.modify_by.ensures.modifies
