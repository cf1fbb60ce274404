use Rattle.std.proofs.Common.{◌∙◌, rules, sym}
use Rattle.iddqd_order.specs.Range.{indexes_ahead}
use Rattle.iddqd_keys.proofs.KeyWalkLemmas.{Gave-last, AreLive-none, pairs_at-last, pairs_at-fewer}
use Rattle.iddqd_by_order.proofs.ordered_walk.RangeDoubleEndedIterator.next_back.Goals as goal

pub invariant_of-self : goal.invariant_of-self
invariant_of-self g c = AreLive-none c.self.inside.items.now.store (indexes_ahead c.next_back.new.self) c.in_err-ix.ensures.steps.1

pub index-requires : goal.index-requires
index-requires g c =
    let gave = Gave-last c.self.inside.items.now.store (indexes_ahead c.self.inside.indexes) (indexes_ahead c.next_back.new.self) c.in_ok-ix.ix c.self.invariant c.in_ok-ix.ensures.steps in
    gave.live

pub invariant_of-self-2 : goal.invariant_of-self-2
invariant_of-self-2 g c =
    let gave = Gave-last c.self.inside.items.now.store (indexes_ahead c.self.inside.indexes) (indexes_ahead c.next_back.new.self) c.in_ok-ix.ix c.self.invariant c.in_ok-ix.ensures.steps in
    gave.others_live

pub returns-clause-steps : goal.returns-clause-steps
returns-clause-steps g c =
    sym c.self.view_is
    ∙ pairs_at-last c.self.inside.items.now.store (indexes_ahead c.self.inside.indexes) (indexes_ahead c.next_back.new.self) c.in_ok-ix.ix c.index.result.now c.in_ok-ix.ensures.steps c.index.ensures

pub returns-clause-goes : goal.returns-clause-goes
returns-clause-goes g c =
    let s = c.self.inside.items.now.store in
    let left = indexes_ahead c.next_back.new.self in
    let fewer = pairs_at-fewer s c.args.self.now left (c.in_ok-ix.ix, c.index.result.now)
    (sym c.self.view_is ∙ pairs_at-last s (indexes_ahead c.self.inside.indexes) left c.in_ok-ix.ix c.index.result.now c.in_ok-ix.ensures.steps c.index.ensures) in
    search rules
