use Rattle.std.proofs.Common.{◌≡◌, length, subst, arith}
use Rattle.std.specs.Prelude.{drop, ◌++◌}
use Rattle.iddqd_c.specs.Entries.{AnswersSecond}
use Rattle.iddqd_c.proofs.ManyLemmas.{IsAnswered-start, IsAnswered-step, answered_all}
use Rattle.iddqd_c.proofs.keyed.many.fill.Goals as goal

pub loop-at-init : goal.loop-at-init
loop-at-init g c = IsAnswered-start _ _ _

pub loop-at-preserved : goal.loop-at-preserved
loop-at-preserved g c =
    IsAnswered-step (AnswersSecond c.args.keyed.now.entries) c.args.seconds.now c.loop-at.at c.args.rows.now c.loop-at.rows
    0 c.answer.result c.loop-at.invariant c.loop-at-test.true (omega (arith, c.loop-at-test.true, c.requires)) c.answer.ensures

pub returns : goal.returns
returns g c =
    let is = c.loop-at.invariant in
    let end : c.loop-at.at ≡ length c.args.seconds.now = omega (arith, c.loop-at.auto.at-end, c.loop-at-test.false) in
    record {
      answers = is.answers;
      each = answered_all (AnswersSecond c.args.keyed.now.entries) c.args.seconds.now c.loop-at.at c.args.rows.now c.loop-at.rows is c.loop-at-test.false;
      filled = subst (λ n. c.loop-at.rows ≡ is.answers ++ drop n c.args.rows.now) end is.filled;
    }
