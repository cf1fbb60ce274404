use Rattle.std.proofs.Common.{◌≡◌, ◌∙◌, length, ap, arith, refl}
use Rattle.std.proofs.lemmas.List.{with_items_is}
use Rattle.iddqd_hash.proofs.CellLemmas.{entries-listed, KeepsMemory-listed}
use Rattle.iddqd_hash.proofs.hash_table_reference.HashTable.rewrite.Goals as goal

pub rewrite_pairs-requires : goal.rewrite_pairs-requires
rewrite_pairs-requires g c = rw (c.as_mut_slice.ensures.value) (rw (← c.self.view_is, entries-listed) at c.requires)

pub returns-clause-rewritten : goal.returns-clause-rewritten
returns-clause-rewritten g c =
    let is =
    with_items_is c.self.inside.pairs c.rewrite_pairs.new.pairs (c.rewrite_pairs.auto.pairs ∙ c.as_mut_slice.ensures.len) in
    rw (← c.self.view_is, entries-listed, entries-listed, is, ← c.as_mut_slice.ensures.value) c.rewrite_pairs.ensures

pub returns-clause-memory : goal.returns-clause-memory
returns-clause-memory g c =
    let is =
    with_items_is c.self.inside.pairs c.rewrite_pairs.new.pairs (c.rewrite_pairs.auto.pairs ∙ c.as_mut_slice.ensures.len) in
    let long : length c.rewrite_pairs.new.pairs ≡ length c.self.inside.pairs.items =
    c.rewrite_pairs.auto.pairs ∙ ap length c.as_mut_slice.ensures.value in
    rw (← c.self.view_is) (KeepsMemory-listed _ _ _ _ _ _ refl (omega (arith, ap length is, long)) (omega arith))
