use Rattle.std.proofs.Common.{rules, ◌≡◌, ◌≢◌, ◌∙◌, true, false, sym, eq-eqb, arith}
use Rattle.iddqd.specs.Store.{sentinel}
use Rattle.iddqd_groups.proofs.ChainLemmas.{IsWalk-read, chain-read, some_left}
use Rattle.iddqd_groups.proofs.linked_table.indexes.LinkedIndexesIterator.next.Goals.{After-place_of}
use Rattle.iddqd_groups.proofs.linked_table.indexes.LinkedIndexesIterator.next.Goals as goal

there : (c : After-place_of) → c.self.inside.at ≢ sentinel
there c none = absurd (let never : true ≡ false = sym (eq-eqb _ _ none) ∙ sym c.eq.ensures ∙ c.if-eq.false in cc)

pub overflow_sub-self : goal.overflow_sub-self
overflow_sub-self c = some_left c.self.inside.links.now c.self.inside.at _ c.self.invariant (there (goal.at.overflow_sub-self c).After-place_of)

pub invariant_of-self : goal.invariant_of-self
invariant_of-self c =
    IsWalk-read c.self.inside.links.now c.place_of.result c.self.inside.at _ c.place_of.ensures
    c.index-self-place_of.is _ c.self.invariant (there (goal.at.invariant_of-self c).After-place_of)

pub returns-clause-steps : goal.returns-clause-steps
returns-clause-steps c =
    rw (← c.self.view_is) (chain-read c.self.inside.links.now c.place_of.result c.self.inside.at _ c.place_of.ensures
    c.index-self-place_of.is _ c.self.invariant (there (goal.at.returns-clause-steps c).After-place_of))

pub returns-clause-goes : goal.returns-clause-goes
returns-clause-goes c = let steps = returns-clause-steps c in search rules

pub returns-clause-bound : goal.returns-clause-bound
returns-clause-bound c =
    let some = some_left c.self.inside.links.now c.self.inside.at _ c.self.invariant (there (goal.at.returns-clause-bound c).After-place_of) in
    rw (← c.self.view_is) (omega (arith, some))
