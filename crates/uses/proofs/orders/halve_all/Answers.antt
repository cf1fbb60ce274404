use Rattle.std.proofs.Common.{rules}
use Rattle.uses.specs.Ledger.{halved}
use Rattle.uses.proofs.UpdateLemmas.{updates_each}
use Rattle.uses.proofs.orders.halve_all.Goals as goal

pub returns-clause-halved : goal.returns-clause-halved
returns-clause-halved c =
    let (last, did) = c.modify_each.ensures.modified in
    updates_each _ halved (λ p q item left called. search rules) _ last _ _ did c.modify_each.ensures.vacant
