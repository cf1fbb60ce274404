use Rattle.std.proofs.Common.{rules}
use Rattle.uses.specs.Scores.{with_points}
use Rattle.uses.proofs.UpdateLemmas.{updates_within}
use Rattle.uses.proofs.board.void_from.Goals as goal

pub returns-clause-void : goal.returns-clause-void
returns-clause-void c =
    let (last, did) = c.modify_range.ensures.modified in
    updates_within _ (with_points 0) (λ p q item left called. search rules) _ _ _ last _ _ _ did c.modify_range.ensures.others
