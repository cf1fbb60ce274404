use Rattle.std.proofs.Common.{◌∙◌, sym}
use Rattle.iddqd_order.specs.Iter.{indexes_left}
use Rattle.iddqd_keys.proofs.KeyWalkLemmas.{Gave-first, AreLive-none, pairs_at-first}
use Rattle.iddqd_ord_map.proofs.id_ord_map.iter.IterIterator.next.Goals as goal

pub invariant_of-self : goal.invariant_of-self
invariant_of-self g c = AreLive-none c.self.inside.items.now.store (indexes_left c.next.new.self) c.in_err-ix.ensures.steps.1

pub item_at-requires : goal.item_at-requires
item_at-requires g c =
    let gave = Gave-first c.self.inside.items.now.store (indexes_left c.self.inside.indexes) (indexes_left c.next.new.self) c.in_ok-ix.ix c.self.invariant c.in_ok-ix.ensures.steps in
    gave.live

pub invariant_of-self-2 : goal.invariant_of-self-2
invariant_of-self-2 g c =
    let gave = Gave-first c.self.inside.items.now.store (indexes_left c.self.inside.indexes) (indexes_left c.next.new.self) c.in_ok-ix.ix c.self.invariant c.in_ok-ix.ensures.steps in
    gave.others_live

pub returns-clause-steps : goal.returns-clause-steps
returns-clause-steps g c =
    sym c.self.view_is
    ∙ pairs_at-first c.self.inside.items.now.store (indexes_left c.self.inside.indexes) (indexes_left c.next.new.self) c.in_ok-ix.ix c.item_at.result.now c.in_ok-ix.ensures.steps c.item_at.ensures
