use Rattle.std.proofs.Common.{length, ap, eqb-true, eq-eqb, arith}
use Rattle.std.proofs.lemmas.List.{nil_from_length}
use Rattle.iddqd_hash.proofs.CellLemmas.{entries-listed}
use Rattle.iddqd_hash.proofs.hash_table_reference.HashTable.is_empty.Goals as goal

pub returns : goal.returns
returns g c = rw (← c.self.view_is, entries-listed, c.is_empty.ensures) (
  λ yes. nil_from_length _ (omega (arith, eqb-true _ _ yes)),
  λ none. eq-eqb _ _ (omega (arith, ap length none)),
)
