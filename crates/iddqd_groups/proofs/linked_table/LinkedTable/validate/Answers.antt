use Rattle.std.proofs.Common.{◌∙◌, List, ap}
use Rattle.std.specs.FinMap as finite
use Rattle.std.proofs.lemmas.List.Sorted.{IsPermutation-refl}
use Rattle.iddqd.proofs.SoundIndexLemmas.{Validates-listed}
use Rattle.iddqd_hash.specs.MapHashTable.{indexes_of}
use Rattle.iddqd_groups.specs.LinkedTable.{LinkedState}
use Rattle.iddqd_groups.specs.Links.{filed_by}
use Rattle.iddqd_groups.specs.declared.linked_table.links.Link.{Link}
use Rattle.iddqd_by_hash.proofs.HashedCountLemmas.{sorted_apart}
use Rattle.iddqd_groups.proofs.linked_table.LinkedTable.validate.Goals as goal

pub returns-in-Ok : goal.returns-in-Ok
returns-in-Ok c =
    let filed = c.args.self.now.filed in
    let listed =
    c.deref-in-Ok.ensures.value
    ∙ c.in-Ok.ensures
    ∙ ap (λ (links : List Link). indexes_of (filed_by links)) c.deref.ensures.value
    ∙ ap (λ (t : LinkedState). indexes_of t.filed) c.self.view_is in
    let apart = sorted_apart (finite.entries filed) (finite.entries_sorted filed) in
    Validates-listed c.args.compactness c.args.expected_len (indexes_of filed) apart c.validate_hash_indexes.result _
    (IsPermutation-refl (indexes_of filed))
    (rw listed at c.validate_hash_indexes.ensures)
