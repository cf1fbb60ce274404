use Rattle.std.proofs.Common.{◌≡◌, take}
use Rattle.iddqd_groups.proofs.LinkListLemmas.{listed_from}
use Rattle.iddqd_groups.proofs.linked_table.validation.listed.Given as goal

abbrev pub invariant-listing : goal.invariant-listing
invariant-listing l = l.list.items ≡ listed_from 0 (take l.place l.links)
