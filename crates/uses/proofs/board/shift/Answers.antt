use Rattle.std.proofs.Common.{rules, true}
use Rattle.uses.specs.Scores.{has_hour, same_hour, with_hour}
use Rattle.uses.proofs.RemakeLemmas.{gone, missing, not_remade, remade}
use Rattle.uses.proofs.board.shift.Goals as goal

pub returns-clause-shifted : goal.returns-clause-shifted
returns-clause-shifted c =
    remade same_hour true (with_hour c.args.other) c.args.board.now c.remake.new.self _
    (has_hour c.args.hour) c.remake.result c.remake.ensures.remakes
    (λ was made met. search rules)

pub returns-clause-missing : goal.returns-clause-missing
returns-clause-missing c =
    missing same_hour true (with_hour c.args.other) c.args.board.now c.remake.new.self _
    (has_hour c.args.hour) c.remake.result c.remake.ensures.remakes

pub returns-clause-refused : goal.returns-clause-refused
returns-clause-refused c =
    not_remade same_hour true (with_hour c.args.other) c.args.board.now c.remake.new.self _
    (has_hour c.args.hour) c.remake.result c.remake.ensures.remakes
    (λ was made met. search rules)

pub returns-clause-gone : goal.returns-clause-gone
returns-clause-gone c =
    gone same_hour true (with_hour c.args.other) c.args.board.now c.remake.new.self _
    (has_hour c.args.hour) c.remake.result c.remake.ensures.remakes
