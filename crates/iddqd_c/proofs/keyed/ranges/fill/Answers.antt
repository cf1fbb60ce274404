use Rattle.std.proofs.Common.{◌≡◌, ◌∙◌, ◌+◌, length, sym, ap, arith}
use Rattle.std.specs.Prelude.{filter}
use Rattle.std.proofs.lemmas.List.{length-append}
use Rattle.iddqd_c.specs.Ranges.{along, lies_between}
use Rattle.iddqd_codes.proofs.FillLemmas.{IsFilled-start, IsFilled-step, filled_at}
use Rattle.iddqd_c.proofs.keyed.ranges.fill.Goals as goal

pub loop-at-init : goal.loop-at-init
loop-at-init c =
    IsFilled-start _ (filter (lies_between c.args.from.now c.args.to.now) (along c.args.direction c.args.range)) c.args.rows.now

pub returns-in-None : goal.returns-in-None
returns-in-None c =
    let is = c.loop-at.invariant in
    let within = filter (lies_between c.args.from.now c.args.to.now) in
    let all : length (within (along c.args.direction c.args.range)) ≡ length is.done + length (within (along c.args.direction c.loop-at.range)) = ap length is.joined ∙ length-append _ _ in
    let none : length (within (along c.args.direction c.loop-at.range)) ≡ 0 = ap length c.in-None.ensures.none in
    record {
      counted = omega (arith, all, none, is.counted, c.loop-at-test.true);
      filled = filled_at _ _ _ _ _ _ is;
    }

pub loop-at-preserved : goal.loop-at-preserved
loop-at-preserved c =
    rw c.of.ensures (IsFilled-step _ _ _ _ _ _ _ (rw c.in-Some.ensures.next at c.loop-at.invariant) c.loop-at-test.true)

pub returns : goal.returns
returns c =
    let is = c.loop-at.invariant in
    let within = filter (lies_between c.args.from.now c.args.to.now) in
    let all : length (within (along c.args.direction c.args.range)) ≡ length is.done + length (within (along c.args.direction c.loop-at.range)) = ap length is.joined ∙ length-append _ _ in
    let long = c.loop-at.auto.rows in
    let end : c.loop-at.at ≡ length c.args.rows.now = omega (arith, c.loop-at.auto.at-end, c.loop-at-test.false) in
    rw (long ∙ sym end) (record {
      counted = omega (arith, all, end, is.counted);
      filled = filled_at _ _ _ _ _ _ is;
    })
