use Rattle.std.proofs.Common.{◌≡◌, [], length, ap, arith}
use Rattle.iddqd_hash.proofs.CellLemmas.{entries-listed}
use Rattle.iddqd_hash.proofs.hash_table_reference.HashTable.destroy_empty.Goals as goal

pub destroy_empty-requires : goal.destroy_empty-requires
destroy_empty-requires g c =
    let none : c.self.inside.pairs.items ≡ [] = rw (← c.self.view_is, entries-listed) at c.requires in
    omega (arith, ap length none)
