use Rattle.iddqd_c.proofs.FilingLemmas.{Files-own}
use Rattle.iddqd_c.proofs.numbers.Numbers.file.Goals as goal

pub returns : goal.returns
returns c = rw (← c.self.view_is) (Files-own _ _ _ _ _ (rw c.mix.ensures at c.file.ensures))
