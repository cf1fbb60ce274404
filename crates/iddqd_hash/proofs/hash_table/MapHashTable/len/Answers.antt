use Rattle.std.proofs.Common.{◌∙◌}
use Rattle.iddqd_hash.specs.MapHashTable.{filed}
use Rattle.iddqd_hash.proofs.MapHashTableLemmas.{len_filed}
use Rattle.iddqd_hash.proofs.hash_table.MapHashTable.len.Goals as goal

pub returns : goal.returns
unfolding filed
returns c = rw (← c.self.view_is) (c.len.ensures ∙ len_filed _ c.self.invariant)
