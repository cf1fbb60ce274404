use Rattle.std.proofs.Common.{◌∙◌, arith}
use Rattle.iddqd_lines.proofs.DigitLemmas.{digits_fit, digits_step, digits_last}
use Rattle.iddqd_lines.proofs.digits.Digits.of.Goals as goal

pub put_front-requires : goal.put_front-requires
put_front-requires c = digits_fit _ _ _ (omega arith) (omega arith) c.loop-rest.invariant

pub loop-rest-preserved : goal.loop-rest-preserved
loop-rest-preserved c = rw c.put_front.ensures (digits_step c.loop-rest.rest c.loop-rest.digits c.loop-rest-test.true (omega arith) ∙ c.loop-rest.invariant)

pub put_front-requires-2 : goal.put_front-requires-2
put_front-requires-2 c = digits_fit _ _ _ (omega arith) (omega arith) c.loop-rest.invariant

pub returns : goal.returns
returns c = rw c.put_front-2.ensures (digits_last c.loop-rest.rest c.loop-rest.digits c.loop-rest-test.false ∙ c.loop-rest.invariant)
