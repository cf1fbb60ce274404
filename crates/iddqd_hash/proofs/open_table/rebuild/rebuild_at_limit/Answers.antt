use Rattle.std.proofs.Common.{arith}
use Rattle.std.proofs.lemmas.List.Sorted.{length_permutation}
use Rattle.iddqd_hash.proofs.open_table.rebuild.rebuild_at_limit.Goals as goal

pub returns-clause-used : goal.returns-clause-used
returns-clause-used g c =
    omega (arith, c.requires.len, c.rebuild.ensures.unmarked, length_permutation _ _ c.rebuild.ensures.moved)
