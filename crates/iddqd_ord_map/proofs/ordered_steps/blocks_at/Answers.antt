use Rattle.std.proofs.Common.{arith}
use Rattle.iddqd_order.specs.MapBTreeTable.{order_of}
use Rattle.iddqd_order.proofs.GapLemmas.{none-below}
use Rattle.iddqd_by_order.proofs.OrderedCountLemmas.{length-held}
use Rattle.iddqd_ord_map.proofs.ordered_steps.blocks_at.Goals as goal

pub returns-then-len-capacity-clause-ready : goal.returns-then-len-capacity-clause-ready
returns-then-len-capacity-clause-ready g c = λ fits.
    let none = none-below c.args.table.now c.args.gap.now fits (omega arith) in
    omega (arith, none)

pub returns-clause-had_room : goal.returns-clause-had_room
returns-clause-had_room g c = λ fits.
    let held = length-held c.args.items.now.store (order_of c.args.table.now) c.requires in
    absurd (omega (arith, fits, held))

pub returns-clause-none : goal.returns-clause-none
returns-clause-none g c = λ fits.
    let held = length-held c.args.items.now.store (order_of c.args.table.now) c.requires in
    absurd (omega (arith, fits, held))
