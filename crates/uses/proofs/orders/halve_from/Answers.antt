use Rattle.std.proofs.Common.{rules}
use Rattle.uses.specs.Ledger.{halved}
use Rattle.uses.proofs.UpdateLemmas.{updates_within}
use Rattle.uses.proofs.orders.halve_from.Goals as goal

pub returns-clause-halved : goal.returns-clause-halved
returns-clause-halved c =
    let (last, did) = c.modify_range_by.ensures.modified in
    updates_within _ halved (λ p q item left called. search rules) _ _ _ last _ _ _ did c.modify_range_by.ensures.others
