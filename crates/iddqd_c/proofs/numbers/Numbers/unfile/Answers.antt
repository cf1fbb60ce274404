use Rattle.iddqd_c.proofs.FilingLemmas.{Unfiles-own}
use Rattle.iddqd_c.proofs.numbers.Numbers.unfile.Goals as goal

pub returns : goal.returns
returns c = rw (← c.self.view_is) (Unfiles-own _ _ _ _ _ (rw c.mix.ensures at c.unfile.ensures))
