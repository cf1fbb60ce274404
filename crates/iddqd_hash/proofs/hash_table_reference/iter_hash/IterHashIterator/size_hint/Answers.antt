use Rattle.iddqd_hash.proofs.UnderLemmas.{under_few}
use Rattle.iddqd_hash.proofs.hash_table_reference.iter_hash.IterHashIterator.size_hint.Goals as goal

pub returns-clause-upper : goal.returns-clause-upper
returns-clause-upper g c = rw (← c.self.view_is) (tt, under_few c.self.inside.hash c.self.inside.pairs.now)
