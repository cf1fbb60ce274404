use Rattle.std.proofs.Common.{◌∙◌, length, ap, eqb-true, eq-eqb, sym}
use Rattle.std.proofs.lemmas.List.{nil_from_length}
use Rattle.iddqd_hash.proofs.OpenTableLemmas.{entries-table_of}
use Rattle.iddqd_hash.proofs.open_table.OpenHashTable.is_empty.Goals as goal

pub returns : goal.returns
returns g c = rw (← c.self.view_is, entries-table_of) (
  λ yes. nil_from_length _ (sym c.self.invariant.sound.counted ∙ eqb-true _ _ yes),
  λ none. eq-eqb _ _ (c.self.invariant.sound.counted ∙ ap length none),
)
