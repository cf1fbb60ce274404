use Rattle.std.proofs.Common.{◌++◌, length, sym, ap, ◌∙◌, arith, append-nil}
use Rattle.std.proofs.lemmas.Grind.{common_steps}
use Rattle.iddqd_order.specs.Iter.{indexes_left}
use Rattle.iddqd_driver.proofs.ObeyLemmas.{yields_more, room_for_rest}
use Rattle.iddqd_driver.proofs.keyed_items.KeyedItems.indexes.Goals as goal

pub loop-ix-init : goal.loop-ix-init
loop-ix-init g c =
    let left = ap indexes_left c.into_iter-ix-iterator.ensures.into_iter_gives in
    let count = ap length left in
    record {
      whole = rw c.in_ok-indexes.ensures.items (left ∙ c.walk-walk.ensures.order);
      room = omega (arith, count, c.len.ensures.value, c.in_ok-indexes.ensures.len, c.in_ok-indexes.ensures.capacity);
    }

pub loop-ix-preserved : goal.loop-ix-preserved
loop-ix-preserved g c =
    let next = c.in-Some.ensures.steps in
    let before = c.loop-ix.invariant in
    record {
      whole = rw c.push_reserved.ensures.items (yields_more _ _ _ _ _ next before.whole);
      room = room_for_rest _ _ _ next _ _ before.room _ _ c.push_reserved.ensures.len c.push_reserved.ensures.capacity;
    }

pub returns-clause-all : goal.returns-clause-all
returns-clause-all g c =
    let left = ap (λ rest. c.loop-ix.indexes.items ++ rest) c.in-None.ensures.steps.0 in
    sym (append-nil c.loop-ix.indexes.items) ∙ sym left ∙ c.loop-ix.invariant.whole

pub returns-clause-empty : goal.returns-clause-empty
returns-clause-empty g c = grind (arith, common_steps)

pub returns-clause-paired : goal.returns-clause-paired
returns-clause-paired g c = grind (arith, common_steps)
