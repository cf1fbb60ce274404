use Rattle.std.proofs.Common.{rules, ◌≡◌, true, subst}
use Rattle.iddqd_maps.specs.OneKey.{IsTaken}
use Rattle.uses.specs.Scores.{has_hour, same_hour}
use Rattle.uses.specs.declared.scores.Score.{Score}
use Rattle.uses.proofs.ExchangeLemmas.{changes, not_changed, unchanged}
use Rattle.uses.proofs.board.move_to.Goals as goal

pub returns-clause-moved : goal.returns-clause-moved
returns-clause-moved c =
    let moved = λ (score : Score). record score { hour = c.args.other } in
    changes same_hour same_hour true (IsTaken same_hour) c.args.board.now c.change.new.self _ moved (has_hour c.args.hour) c.change.result c.change.ensures.changes
    (λ was item (score, returned, shows).
    let made : item ≡ record score.now { hour = c.args.other } = search rules in
    subst (λ (x : Score). item ≡ record x { hour = c.args.other }) shows made)

pub returns-clause-refused : goal.returns-clause-refused
returns-clause-refused c =
    let moved = λ (score : Score). record score { hour = c.args.other } in
    not_changed same_hour same_hour true (IsTaken same_hour) c.args.board.now c.change.new.self _ moved (has_hour c.args.hour) c.change.result c.change.ensures.changes
    (λ was item (score, returned, shows).
    let made : item ≡ record score.now { hour = c.args.other } = search rules in
    subst (λ (x : Score). item ≡ record x { hour = c.args.other }) shows made)

pub returns-clause-unchanged : goal.returns-clause-unchanged
returns-clause-unchanged c = unchanged same_hour same_hour true (IsTaken same_hour) c.args.board.now c.change.new.self _ (has_hour c.args.hour) c.change.result c.change.ensures.changes
