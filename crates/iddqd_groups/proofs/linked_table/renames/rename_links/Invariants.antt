use Rattle.std.proofs.Common.{◌≡◌, vec_len, vec_capacity}
use Rattle.iddqd.specs.Compaction.{remapped}
use Rattle.iddqd_groups.proofs.RenamingLemmas.{Renaming}
use Rattle.iddqd_groups.proofs.linked_table.renames.rename_links.Given as goal

abbrev pub invariant-renaming : goal.invariant-renaming
invariant-renaming l =
    Renaming (remapped l.remap) l.fn.links.items l.links.items l.place
    × (vec_len l.links ≡ vec_len l.fn.links)
    × (vec_capacity l.links ≡ vec_capacity l.fn.links)
