use Rattle.iddqd_hash.specs.HashTable.{entries}
use Rattle.iddqd_c.proofs.MixingLemmas.{entries_own, under_own}
use Rattle.iddqd_c.proofs.numbers.Numbers.under.Goals as goal

pub returns : goal.returns
returns c =
    rw (← c.self.view_is, entries_own c.self.inside.table, under_own c.args.hash (entries c.self.inside.table))
    (rw c.mix.ensures at c.iter_hash.ensures)
