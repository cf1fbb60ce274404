use Rattle.std.proofs.Common.{refl, arith}
use Rattle.iddqd.proofs.WalkLemmas.{item_at-emptied, KeepsOtherItems-emptied}
use Rattle.iddqd.proofs.item_set.consuming.ConsumingItemSet.take.Goals as goal

pub returns-clause-taken : goal.returns-clause-taken
returns-clause-taken g c =
    let within = c.in_ok-slot.ensures.variant.0 refl in
    rw (c.replace.ensures.after, c.as_u32.ensures) (item_at-emptied c.self.inside.slots.items c.args.ix _ (omega (arith, within)))

pub returns-clause-others : goal.returns-clause-others
returns-clause-others g c =
    rw (c.replace.ensures.after, c.as_u32.ensures, ← c.self.view_is) (KeepsOtherItems-emptied c.self.inside.slots.items c.args.ix _)
