use Rattle.std.proofs.Common.{arith}
use Rattle.iddqd.specs.Store.{live_count}
use Rattle.iddqd_order.specs.MapBTreeTable.{order_of}
use Rattle.iddqd_order.proofs.GapLemmas.{capacity-least}
use Rattle.iddqd_by_order.proofs.OrderedCountLemmas.{length-held}
use Rattle.iddqd_ord_map.proofs.SizeLemmas.{reserved-held, reserved-few}
use Rattle.iddqd_ord_map.proofs.ordered_steps.reserve.Goals as goal

pub returns-clause-reserved : goal.returns-clause-reserved
returns-clause-reserved g c =
    let held = length-held c.args.items.now.store (order_of c.args.table.now) c.requires in
    reserved-held c.args.table.now c.try_reserve.new.self (live_count c.args.items.now.store) c.args.additional held c.try_reserve.result c.try_reserve.ensures

pub returns-clause-had_room : goal.returns-clause-had_room
returns-clause-had_room g c = λ fits.
    let held = length-held c.args.items.now.store (order_of c.args.table.now) c.requires in
    let least = capacity-least c.args.table.now in
    let (ok, same) = c.try_reserve.ensures.had_room (omega (arith, fits, held, least)) in
    (ok, same)

pub returns-clause-few : goal.returns-clause-few
returns-clause-few g c =
    let held = length-held c.args.items.now.store (order_of c.args.table.now) c.requires in
    reserved-few c.args.table.now c.try_reserve.new.self (live_count c.args.items.now.store) c.args.additional held c.try_reserve.result c.try_reserve.ensures
