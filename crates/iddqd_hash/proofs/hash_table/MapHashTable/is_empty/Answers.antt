use Rattle.std.proofs.Common.{◌∙◌, ap}
use Rattle.std.proofs.lemmas.List.{nil_from_length}
use Rattle.std.specs.FinMap as finite
use Rattle.iddqd_hash.specs.MapHashTable.{filed, filed_from}
use Rattle.iddqd_hash.proofs.MapHashTableLemmas.{len_filed}
use Rattle.iddqd_hash.proofs.hash_table.MapHashTable.is_empty.Goals as goal

pub returns : goal.returns
unfolding filed
returns c = rw (← c.self.view_is) (
  λ yes. ap filed_from (c.is_empty.ensures.0 yes),
  λ none. c.is_empty.ensures.1 (nil_from_length _ (len_filed _ c.self.invariant ∙ ap finite.len none ∙ finite.len-empty _ _)),
)
