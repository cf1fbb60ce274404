use Rattle.std.proofs.Common.{rules, true}
use Rattle.uses.specs.Scores.{same_hour, with_hour}
use Rattle.uses.proofs.RemakeLemmas.{missing_at, not_remade_at, remade_at}
use Rattle.uses.proofs.board.shift_at.Goals as goal

pub returns-clause-shifted : goal.returns-clause-shifted
returns-clause-shifted c =
    remade_at same_hour true (with_hour c.args.other) c.args.board.now c.remake_at.new.self _ c.args.ix
    c.remake_at.result c.remake_at.ensures.remakes (λ was made met. search rules)

pub returns-clause-missing : goal.returns-clause-missing
returns-clause-missing c =
    missing_at same_hour true (with_hour c.args.other) c.args.board.now c.remake_at.new.self _ c.args.ix
    c.remake_at.result c.remake_at.ensures.remakes

pub returns-clause-refused : goal.returns-clause-refused
returns-clause-refused c =
    not_remade_at same_hour true (with_hour c.args.other) c.args.board.now c.remake_at.new.self _ c.args.ix
    c.remake_at.result c.remake_at.ensures.remakes (λ was made met. search rules)
