use Rattle.std.proofs.Common.{◌∙◌, sym, ap, eq-eqb, eqb-true, true, false, ◌≡◌, None, Some}
use Rattle.iddqd_hash.specs.{filed}
use Rattle.iddqd_hash.proofs.MemberLemmas.{filed_hash}
use Rattle.iddqd_groups.specs.declared.linked_table.links.Link.{Link}
use Rattle.iddqd_groups.specs.Links.{next_of}
use Rattle.iddqd_groups.proofs.LinksLemmas.{below-filed_by, link_read}
use Rattle.iddqd_groups.proofs.StepLemmas.{behind-alike, behind-next}
use Rattle.iddqd_groups.proofs.linked_table.LinkedTable.next_under.Goals as goal
use Rattle.iddqd_groups.proofs.linked_table.LinkedTable.next_under.Goals.{After-eq}

-- what was read is the next index
read : (c : After-eq) → c.index.result.now.next ≡ next_of c.self.inside.links.items c.args.ix
read c =
    let links = c.self.inside.links.items in
    let stored = rw (← c.self.view_is) at c.requires in
    ap (λ (l : Link). l.next) (link_read links c.place_of.result c.args.ix c.index.result.now c.place_of.ensures
    (below-filed_by links c.args.ix stored) c.index.ensures)

pub returns-then-eq-clause-next : goal.returns-then-eq-clause-next
returns-then-eq-clause-next c =
    let stored = rw (← c.self.view_is) at c.requires in
    let (hash, here) = filed_hash _ stored in
    let last = eqb-true _ _ (sym c.eq.ensures ∙ c.if-eq.true) in
    rw (← c.self.view_is)
    (behind-next (filed c.self.inside.heads) c.self.inside.links.items c.self.invariant.linked c.args.ix hash here None
    (sym (read (goal.at.returns-then-eq-clause-next c).After-eq) ∙ last))

pub returns-else-eq-clause-next : goal.returns-else-eq-clause-next
returns-else-eq-clause-next c =
    let stored = rw (← c.self.view_is) at c.requires in
    let (hash, here) = filed_hash _ stored in
    let same = read (goal.at.returns-else-eq-clause-next c).After-eq in
    rw (← c.self.view_is)
    (behind-next (filed c.self.inside.heads) c.self.inside.links.items c.self.invariant.linked c.args.ix hash here (Some _)
    ((λ none. (let never : true ≡ false = sym (eq-eqb _ _ (same ∙ none)) ∙ sym c.eq.ensures ∙ c.if-eq.false in cc)), same))

pub returns-then-eq-clause-alike : goal.returns-then-eq-clause-alike
returns-then-eq-clause-alike c =
    let stored = rw (← c.self.view_is) at c.requires in
    let (hash, here) = filed_hash _ stored in
    rw (← c.self.view_is)
    (λ j there.
    behind-alike (filed c.self.inside.heads) c.self.inside.links.items c.self.invariant.linked c.args.ix hash here j there ∙ sym here)

pub returns-else-eq-clause-alike : goal.returns-else-eq-clause-alike
returns-else-eq-clause-alike c =
    let stored = rw (← c.self.view_is) at c.requires in
    let (hash, here) = filed_hash _ stored in
    rw (← c.self.view_is)
    (λ j there.
    behind-alike (filed c.self.inside.heads) c.self.inside.links.items c.self.invariant.linked c.args.ix hash here j there ∙ sym here)
