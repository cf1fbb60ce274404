use Rattle.std.proofs.Common.{◌∙◌, sym}
use Rattle.iddqd_order.specs.Range.{indexes_ahead}
use Rattle.iddqd_keys.proofs.KeyWalkLemmas.{Gave-first, AreLive-none, pairs_at-first}
use Rattle.iddqd_by_order.proofs.ordered_walk.RangeIterator.next.Goals as goal

pub invariant_of-self : goal.invariant_of-self
invariant_of-self g c = AreLive-none c.self.inside.items.now.store (indexes_ahead c.next.new.self) c.in_err-ix.ensures.steps.1

pub index-requires : goal.index-requires
index-requires g c =
    let gave = Gave-first c.self.inside.items.now.store (indexes_ahead c.self.inside.indexes) (indexes_ahead c.next.new.self) c.in_ok-ix.ix c.self.invariant c.in_ok-ix.ensures.steps in
    gave.live

pub invariant_of-self-2 : goal.invariant_of-self-2
invariant_of-self-2 g c =
    let gave = Gave-first c.self.inside.items.now.store (indexes_ahead c.self.inside.indexes) (indexes_ahead c.next.new.self) c.in_ok-ix.ix c.self.invariant c.in_ok-ix.ensures.steps in
    gave.others_live

pub returns-clause-steps : goal.returns-clause-steps
returns-clause-steps g c =
    sym c.self.view_is
    ∙ pairs_at-first c.self.inside.items.now.store (indexes_ahead c.self.inside.indexes) (indexes_ahead c.next.new.self) c.in_ok-ix.ix c.index.result.now c.in_ok-ix.ensures.steps c.index.ensures
