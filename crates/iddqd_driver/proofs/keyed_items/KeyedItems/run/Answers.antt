use Rattle.std.proofs.Common.{length, ap, arith}
use Rattle.std.proofs.lemmas.Grind.{common_steps}
use Rattle.iddqd_driver.specs.State.{IsPaired}
use Rattle.iddqd_driver.proofs.ObeyLemmas.{Obeyed-none, Obeyed-step, Obeyed-run, Obeyed-memory, yields_more, room_for_rest}
use Rattle.iddqd_driver.proofs.keyed_items.KeyedItems.run.Goals as goal

pub loop-command-init : goal.loop-command-init
loop-command-init g c =
    let given = c.into_iter-command-iterator.ensures.into_iter_gives in
    let all = ap length given.0 in
    record {
      can_next = tt;
      is_finite = tt;
      yielded = given.0;
      obeyed = Obeyed-none _ _ _ c.in-Ok.ensures.items;
      room = omega (arith, c.in-Ok.ensures.len, c.in-Ok.ensures.capacity, c.len.ensures);
    }

pub loop-command-preserved : goal.loop-command-preserved
loop-command-preserved g c =
    let before = c.loop-command.invariant in
    let next = c.in-Some.ensures.steps.0 in
    record {
      can_next = tt;
      is_finite = tt;
      yielded = yields_more _ _ _ _ _ next before.yielded;
      obeyed = Obeyed-step _ _ _ _ _ before.obeyed _ _ _ _ c.step.ensures.step c.step.ensures.memory c.push_reserved.ensures.items;
      room = room_for_rest _ _ _ next _ _ before.room _ _ c.push_reserved.ensures.len c.push_reserved.ensures.capacity;
    }

pub returns-clause-run : goal.returns-clause-run
returns-clause-run g c =
    let before = c.loop-command.invariant in
    let paired : IsPaired c.args.self.now.state = rw (← c.self.view_is) c.self.invariant in
    Obeyed-run _ _ _ _ _ before.obeyed _ _ before.yielded
    (omega (arith, c.loop-command.command-iterator.rest.ok, c.in-None.ensures.steps.0)) paired

pub returns-clause-memory : goal.returns-clause-memory
returns-clause-memory g c =
    let before = c.loop-command.invariant in
    let paired : IsPaired c.args.self.now.state = rw (← c.self.view_is) c.self.invariant in
    Obeyed-memory _ _ _ _ _ before.obeyed _ _ before.yielded
    (omega (arith, c.loop-command.command-iterator.rest.ok, c.in-None.ensures.steps.0)) paired

pub returns-clause-empty : goal.returns-clause-empty
returns-clause-empty g c = grind (arith, common_steps)

pub returns-in-Err-clause-refused : goal.returns-in-Err-clause-refused
returns-in-Err-clause-refused g c = grind (arith, common_steps)

pub returns-clause-refused : goal.returns-clause-refused
returns-clause-refused g c = grind (arith, common_steps)

pub returns-in-Err-clause-empty : goal.returns-in-Err-clause-empty
returns-in-Err-clause-empty g c = grind (arith, common_steps)
