use Rattle.std.proofs.Common.{◌∙◌, sym}
use Rattle.iddqd_c.proofs.MixingLemmas.{length_own}
use Rattle.iddqd_c.proofs.numbers.Numbers.len.Goals as goal

pub returns : goal.returns
returns c = rw (← c.self.view_is) (c.len.ensures ∙ sym (length_own _))
