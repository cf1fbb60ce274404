use Rattle.std.proofs.Common.{arith}
use Rattle.iddqd.specs.Compaction.{remapped}
use Rattle.iddqd_groups.proofs.RenameLinkLemmas.{head_is_filed}
use Rattle.iddqd_groups.proofs.RenamedTableLemmas.{IsLinkedTable-cut, Renames-cut, length-cut}
use Rattle.iddqd_groups.proofs.linked_table.LinkedTable.remap_indexes.Goals as goal

pub remap_indexes-requires-clause-can_remap : goal.remap_indexes-requires-clause-can_remap
remap_indexes-requires-clause-can_remap c = λ ix here.
    let can = rw (← c.self.view_is) at c.requires.can_remap in
    can ix (head_is_filed c.self.invariant.linked ix here)

pub remap_indexes-requires-clause-distinct : goal.remap_indexes-requires-clause-distinct
remap_indexes-requires-clause-distinct c = λ i j p q same.
    let one = rw (← c.self.view_is) at c.requires.distinct in
    one i j (head_is_filed c.self.invariant.linked i p) (head_is_filed c.self.invariant.linked j q) same

pub invariant_of-self : goal.invariant_of-self
invariant_of-self c =
    let one = rw (← c.self.view_is) at c.requires.distinct in
    let dense = rw (← c.self.view_is) at c.requires.dense in
    IsLinkedTable-cut (remapped c.args.remap.now) _ _ _ _ _ _ _ c.self.invariant c.remap_indexes.ensures.renamed
    c.rename_links.ensures.renamed one dense (omega (arith, c.rename_links.ensures.len)) c.truncate.ensures.items _
    (omega (arith, c.self.invariant.roomy, c.remap_indexes.ensures.memory.same_capacity))

pub returns-clause-renamed : goal.returns-clause-renamed
returns-clause-renamed c = rw (← c.self.view_is) (
    let one = rw (← c.self.view_is) at c.requires.distinct in
    let dense = rw (← c.self.view_is) at c.requires.dense in
    Renames-cut (remapped c.args.remap.now) _ _ _ _ _ _ _ c.self.invariant c.remap_indexes.ensures.renamed
    c.rename_links.ensures.renamed one dense (omega (arith, c.rename_links.ensures.len)) c.truncate.ensures.items)

pub returns-clause-slots : goal.returns-clause-slots
returns-clause-slots c =
    let one = rw (← c.self.view_is) at c.requires.distinct in
    let dense = rw (← c.self.view_is) at c.requires.dense in
    let whole =
    length-cut (remapped c.args.remap.now) _ _ _ _ _ _ _ c.self.invariant c.remap_indexes.ensures.renamed
    c.rename_links.ensures.renamed one dense (omega (arith, c.rename_links.ensures.len)) c.truncate.ensures.items in
    omega (arith, whole)
