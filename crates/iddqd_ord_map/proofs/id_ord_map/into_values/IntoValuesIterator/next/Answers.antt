use Rattle.std.proofs.Common.{◌∙◌, ◌<◌, length, rules, sym, ap, arith}
use Rattle.iddqd_order.specs.IntoIter.{indexes_to_come}
use Rattle.iddqd_ord_map.specs.Pairs.{items_of_slots}
use Rattle.iddqd_ord_map.proofs.TakeLemmas.{AreThere-none, Took-front, items_of_slots-front, there_front}
use Rattle.iddqd_ord_map.proofs.id_ord_map.into_values.IntoValuesIterator.next.Goals as goal

pub invariant_of-self : goal.invariant_of-self
invariant_of-self g c = AreThere-none c.self.inside.items (indexes_to_come c.next.new.self) c.in_err-ix.ensures.steps.1

pub take_at-requires : goal.take_at-requires
take_at-requires g c =
    there_front c.self.inside.items (indexes_to_come c.self.inside.indexes) (indexes_to_come c.next.new.self) c.in_ok-ix.ix c.in_ok-ix.ensures.steps c.self.invariant

pub invariant_of-self-2 : goal.invariant_of-self-2
invariant_of-self-2 g c =
    let took = Took-front c.self.inside.items c.take_at.new.items c.in_ok-ix.ix (indexes_to_come c.next.new.self) c.take_at.ensures.others (indexes_to_come c.self.inside.indexes) c.in_ok-ix.ensures.steps c.self.invariant in
    took.there

pub returns-clause-steps : goal.returns-clause-steps
returns-clause-steps g c =
    sym c.self.view_is
    ∙ items_of_slots-front c.self.inside.items c.take_at.new.items c.in_ok-ix.ix (indexes_to_come c.next.new.self) c.take_at.ensures.others (indexes_to_come c.self.inside.indexes) c.take_at.result c.in_ok-ix.ensures.steps c.self.invariant c.take_at.ensures.item

pub returns-clause-goes : goal.returns-clause-goes
returns-clause-goes g c =
    let left = items_of_slots c.take_at.new.items (indexes_to_come c.next.new.self) in
    let steps = sym c.self.view_is ∙ items_of_slots-front c.self.inside.items c.take_at.new.items c.in_ok-ix.ix (indexes_to_come c.next.new.self) c.take_at.ensures.others (indexes_to_come c.self.inside.indexes) c.take_at.result c.in_ok-ix.ensures.steps c.self.invariant c.take_at.ensures.item in
    let fewer : length left < length c.args.self.now = omega (arith, ap length steps) in
    search rules
