use Rattle.iddqd_order.specs.MapBTreeTable.{order_of}
use Rattle.iddqd_by_order.proofs.OrderedCountLemmas.{AreAsExpected-listed}
use Rattle.iddqd_ord_map.proofs.ordered_steps.validate.Goals as goal

pub returns-in-Err-Invalid : goal.returns-in-Err-Invalid
returns-in-Err-Invalid g c = λ _.
    let s = c.args.items.now.store in
    let refused = rw (c.in-Err-Invalid.field-0-is, c.len.ensures) at c.in-Err-Invalid.ensures.sound in
    refused (AreAsExpected-listed s (order_of c.args.table.now) c.requires.held c.requires.valid c.args.compactness c.requires.allowed)
