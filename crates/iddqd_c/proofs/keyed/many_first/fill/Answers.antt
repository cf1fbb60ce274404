use Rattle.std.proofs.Common.{◌≡◌, ◌≤◌, arith, length, subst, ℕ}
use Rattle.std.specs.Prelude.{drop, ◌++◌}
use Rattle.iddqd_c.specs.Entries.{AnswersSpan, spans}
use Rattle.iddqd_c.proofs.ManyLemmas.{IsAnswered-step, answered_all, length-spans, next_start, span_at}
use Rattle.iddqd_c.proofs.keyed.many_first.fill.Goals as goal

pub loop-at-preserved : goal.loop-at-preserved
loop-at-preserved g c =
    let ends = c.args.ends.now in
    let at = c.loop-at.at in
    let now = c.loop-at.rows in
    let answers = AnswersSpan c.args.keyed.now.entries c.args.bytes.now in
    let span = span_at ends at c.loop-at.start c.loop-at.invariant.1 c.loop-at-test.true in (
      IsAnswered-step answers (spans ends) at c.args.rows.now now (0, 0) c.answer.result c.loop-at.invariant.0
          (omega (arith, c.loop-at-test.true, length-spans ends)) (omega (arith, c.loop-at-test.true, c.requires))
          (subst (λ (p : ℕ × ℕ). answers p c.answer.result) span c.answer.ensures),
      next_start ends at,
    )

pub returns : goal.returns
returns g c =
    let is = c.loop-at.invariant.0 in
    let asked = spans c.args.ends.now in
    let answers = AnswersSpan c.args.keyed.now.entries c.args.bytes.now in
    let counted = length-spans c.args.ends.now in
    let end : c.loop-at.at ≡ length asked = omega (arith, counted, c.loop-at.auto.at-end, c.loop-at-test.false) in
    let past : length asked ≤ c.loop-at.at = omega (arith, end) in
    record {
      answers = is.answers;
      each = answered_all answers asked c.loop-at.at c.args.rows.now c.loop-at.rows is past;
      filled = subst (λ n. c.loop-at.rows ≡ is.answers ++ drop n c.args.rows.now) end is.filled;
    }
