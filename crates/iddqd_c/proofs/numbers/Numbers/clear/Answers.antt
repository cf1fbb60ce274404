use Rattle.std.proofs.Common.{◌∙◌, ap, map}
use Rattle.iddqd_c.proofs.MixingLemmas.{KeepsMemory-own, entries_own, own}
use Rattle.iddqd_c.proofs.numbers.Numbers.clear.Goals as goal

pub returns-clause-empty : goal.returns-clause-empty
returns-clause-empty c = entries_own _ ∙ ap (map own) c.clear.ensures.empty

pub returns-clause-memory : goal.returns-clause-memory
returns-clause-memory c = rw (← c.self.view_is) (KeepsMemory-own _ _ c.clear.ensures.memory)
