use Rattle.std.proofs.Common.{◌≤◌, ◌+◌, ◌∙◌, ℕ, min, max, vec_len, vec_capacity, ap, arith}
use Rattle.std.specs.FinMap as finite
use Rattle.iddqd_hash.specs.{filed, capacity, memory}
use Rattle.iddqd_groups.specs.LinkedTable.{IsLinkedTable, LinkedState, needed_linked}
use Rattle.iddqd_groups.specs.Links.{filed_by}
use Rattle.iddqd_groups.proofs.LinksLemmas.{length-filed_by}
use Rattle.iddqd_groups.proofs.LinkedSizeLemmas.{IsLinkedTable-kept, capacity_at_least, len-heads, needed-enough, needed-heads, needed-links, none_kept, OnErr-anyway}
use Rattle.iddqd_groups.proofs.linked_table.LinkedTable.shrink_to.Goals.{After-shrink_to-2}
use Rattle.iddqd_groups.proofs.linked_table.LinkedTable.shrink_to.Goals as goal

-- ---- what holds whatever became of the memory

-- how many indexes the table can still hold
abbrev kept : After-shrink_to-2 → ℕ
kept c =
    min (min (capacity c.self.inside.heads) (vec_capacity c.self.inside.links))
    (max c.args.least (finite.len (filed_by c.self.inside.links.items)))

sound : (c : After-shrink_to-2)
    → IsLinkedTable (filed c.shrink_to-2.new.self) (capacity c.shrink_to-2.new.self) c.shrink_to.new.self.items
    c.self.inside.len
sound c =
    IsLinkedTable-kept _ c.self.invariant c.shrink_to-2.ensures.contents c.shrink_to.ensures.items
    (omega (arith, c.self.invariant.roomy, c.shrink_to-2.ensures.capacity, c.max.ensures))

holds : (c : After-shrink_to-2) → kept c ≤ min (capacity c.shrink_to-2.new.self) (vec_capacity c.shrink_to.new.self)
holds c =
    let within = length-filed_by c.self.inside.links.items in
    let heads = len-heads c.self.invariant.linked in
    capacity_at_least _ _ _ _ c.max-wanted.result _ _
    (omega (arith, within, c.len.ensures, c.max-wanted.ensures))
    (omega (arith, c.max-wanted.ensures))
    (omega (arith, c.self.invariant.counted, heads, c.shrink_to-2.ensures.capacity, c.max.ensures))
    (omega (arith, c.shrink_to.ensures.lower_bound))

room_within : (c : After-shrink_to-2) → kept c ≤ capacity c.shrink_to-2.new.self
room_within c =
    let heads = len-heads c.self.invariant.linked in
    omega (arith, c.self.invariant.counted, heads, c.max.ensures, c.shrink_to-2.ensures.capacity)

links_within : (c : After-shrink_to-2)
    → max (vec_len c.self.inside.links) (kept c) ≤ vec_capacity c.shrink_to.new.self
links_within c =
    let within = length-filed_by c.self.inside.links.items in
    omega (arith, within, c.len.ensures, c.max-wanted.ensures, c.shrink_to.ensures.lower_bound)

enough : (c : After-shrink_to-2)
    → needed_linked (max (vec_len c.self.inside.links) (kept c)) (kept c)
    ≤ memory c.shrink_to-2.new.self + vec_capacity c.shrink_to.new.self
enough c =
    needed-enough _ (capacity c.shrink_to-2.new.self) _ _ _ (room_within c) c.shrink_to-2.ensures.enough
    (links_within c)

-- ---- out of memory in the hash table

pub invariant_of-self : goal.invariant_of-self
invariant_of-self c = sound (goal.at.invariant_of-self c).After-shrink_to-2

pub returns-in_err-shrink_to-clause-contents : goal.returns-in_err-shrink_to-clause-contents
returns-in_err-shrink_to-clause-contents c =
    ap filed_by c.shrink_to.ensures.items ∙ ap (λ (t : LinkedState). t.filed) c.self.view_is

pub returns-in_err-shrink_to-clause-capacity_at_least : goal.returns-in_err-shrink_to-clause-capacity_at_least
returns-in_err-shrink_to-clause-capacity_at_least c = rw (← c.self.view_is) (holds (goal.at.returns-in_err-shrink_to-clause-capacity_at_least c).After-shrink_to-2)

pub returns-in_err-shrink_to-clause-succeeds : goal.returns-in_err-shrink_to-clause-succeeds
returns-in_err-shrink_to-clause-succeeds c = rw (← c.self.view_is) (λ none.
    let count = none_kept _ _ none in
    let heads = len-heads c.self.invariant.linked in
    let nothing =
    c.in_err-shrink_to.ensures.memory.succeeds
    (omega (arith, count, c.max.ensures, c.self.invariant.counted, heads)) in
    absurd cc)

pub returns-in_err-shrink_to-clause-needed : goal.returns-in_err-shrink_to-clause-needed
returns-in_err-shrink_to-clause-needed c =
    let counted = c.self.invariant.counted in
    rw (← c.self.view_is)
    (OnErr-anyway _ _
    (needed-heads _ (max c.max.result (finite.len (filed c.self.inside.heads))) _ _ _
    (omega (arith, counted, c.max.ensures))
    c.in_err-shrink_to.ensures.needed
    (links_within (goal.at.returns-in_err-shrink_to-clause-needed c).After-shrink_to-2)))

pub returns-in_err-shrink_to-clause-enough : goal.returns-in_err-shrink_to-clause-enough
returns-in_err-shrink_to-clause-enough c = rw (← c.self.view_is) (enough (goal.at.returns-in_err-shrink_to-clause-enough c).After-shrink_to-2)

-- ---- the links keep their memory

pub invariant_of-self-then-wanted-capacity : goal.invariant_of-self-then-wanted-capacity
invariant_of-self-then-wanted-capacity c = sound (goal.at.invariant_of-self-then-wanted-capacity c).After-shrink_to-2

pub returns-then-wanted-capacity-clause-contents : goal.returns-then-wanted-capacity-clause-contents
returns-then-wanted-capacity-clause-contents c =
    ap filed_by c.shrink_to.ensures.items ∙ ap (λ (t : LinkedState). t.filed) c.self.view_is

pub returns-then-wanted-capacity-clause-capacity_at_least : goal.returns-then-wanted-capacity-clause-capacity_at_least
returns-then-wanted-capacity-clause-capacity_at_least c = rw (← c.self.view_is) (holds (goal.at.returns-then-wanted-capacity-clause-capacity_at_least c).After-shrink_to-2)

pub returns-then-wanted-capacity-clause-refused : goal.returns-then-wanted-capacity-clause-refused
returns-then-wanted-capacity-clause-refused c =
    let within = length-filed_by c.self.inside.links.items in
    rw (← c.self.view_is)
    (omega (arith, within, c.len.ensures, c.max-wanted.ensures, c.capacity.ensures, c.if-wanted-capacity.true))

pub returns-then-wanted-capacity-clause-needed : goal.returns-then-wanted-capacity-clause-needed
returns-then-wanted-capacity-clause-needed c =
    let within = length-filed_by c.self.inside.links.items in
    rw (← c.self.view_is)
    (needed-links _ (capacity c.shrink_to-2.new.self) _ _ _
    (room_within (goal.at.returns-then-wanted-capacity-clause-needed c).After-shrink_to-2)
    c.shrink_to-2.ensures.enough
    (omega (arith, within, c.len.ensures, c.max-wanted.ensures, c.capacity.ensures, c.if-wanted-capacity.true)))

pub returns-then-wanted-capacity-clause-enough : goal.returns-then-wanted-capacity-clause-enough
returns-then-wanted-capacity-clause-enough c = rw (← c.self.view_is) (enough (goal.at.returns-then-wanted-capacity-clause-enough c).After-shrink_to-2)

-- ---- both parts are smaller

pub invariant_of-self-2 : goal.invariant_of-self-2
invariant_of-self-2 c = sound (goal.at.invariant_of-self-2 c).After-shrink_to-2

pub returns-clause-contents : goal.returns-clause-contents
returns-clause-contents c = ap filed_by c.shrink_to.ensures.items ∙ ap (λ (t : LinkedState). t.filed) c.self.view_is

pub returns-clause-capacity_at_least : goal.returns-clause-capacity_at_least
returns-clause-capacity_at_least c = rw (← c.self.view_is) (holds (goal.at.returns-clause-capacity_at_least c).After-shrink_to-2)

pub returns-clause-shrunk : goal.returns-clause-shrunk
returns-clause-shrunk c =
    let within = length-filed_by c.self.inside.links.items in
    let heads = len-heads c.self.invariant.linked in
    rw (← c.self.view_is)
    (omega (
      arith,
      within,
      c.self.invariant.counted,
      heads,
      c.len.ensures,
      c.max-wanted.ensures,
      c.capacity.ensures,
      c.if-wanted-capacity.false,
      c.in_ok-shrink_to.ensures.memory.shrunk,
      c.max.ensures,
    ))

pub returns-clause-enough : goal.returns-clause-enough
returns-clause-enough c = rw (← c.self.view_is) (enough (goal.at.returns-clause-enough c).After-shrink_to-2)
