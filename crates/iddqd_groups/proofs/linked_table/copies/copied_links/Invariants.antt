use Rattle.std.proofs.Common.{◌≡◌, length, take, vec_len, vec_capacity}
use Rattle.iddqd_groups.proofs.linked_table.copies.copied_links.Given as goal

abbrev pub invariant-loop-link : goal.invariant-loop-link
invariant-loop-link l = record {
  links : l.copies.items ≡ take l.link-index l.links;
  pushed : vec_len l.copies ≡ l.link-index;
  exact : vec_capacity l.copies ≡ length l.links;
}
