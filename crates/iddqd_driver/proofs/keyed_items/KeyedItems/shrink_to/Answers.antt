use Rattle.std.proofs.Common.{rules, Result, Ok, Err, OnOk, refl, arith}
use Rattle.iddqd_driver.proofs.MemoryLemmas.{ShrinksInMemory-from_parts}
use Rattle.iddqd_driver.proofs.keyed_items.KeyedItems.shrink_to.Goals as goal

-- what holds is so at Ok
on_ok : {A E : Type 0} (r : Result A E) (P : Type 0) → P → OnOk r P
on_ok (Ok done) P holds = holds
on_ok (Err error) P holds = tt

pub returns-in_err-shrink_capacity_to : goal.returns-in_err-shrink_capacity_to
returns-in_err-shrink_capacity_to g c =
    let inside = c.self.inside in
    let slots = c.shrink_capacity_to.ensures in
    rw (← c.self.view_is)
    (ShrinksInMemory-from_parts inside.state inside.items _ inside.filed inside.filed inside.order _ c.args.least
    c.from_residual.result c.self.invariant slots.contents slots.never_less slots.never_more
    (search (rules, c.from_residual.ensures)) refl (omega arith) (omega arith) (search (rules, c.from_residual.ensures))
    c.shrink_to.ensures)

pub returns : goal.returns
returns g c =
    let inside = c.self.inside in
    let slots = c.in_ok-shrink_capacity_to.ensures in
    let hashed = c.shrink_to-2.ensures in
    rw (← c.self.view_is)
    (ShrinksInMemory-from_parts inside.state inside.items _ inside.filed _ inside.order _ c.args.least
    c.shrink_to-2.result c.self.invariant slots.contents slots.never_less slots.never_more
    (on_ok c.shrink_to-2.result _ slots.shrunk) hashed.contents hashed.capacity hashed.memory.never_more
    hashed.memory.shrunk c.shrink_to.ensures)
