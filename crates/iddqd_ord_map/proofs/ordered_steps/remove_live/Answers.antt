use Rattle.std.proofs.Common.{◌<◌, length}
use Rattle.iddqd_order.specs.MapBTreeTable.{order_of}
use Rattle.iddqd_order.proofs.MoveLemmas.{without-fewer}
use Rattle.iddqd_ord_map.proofs.ordered_steps.remove_live.Goals as goal

pub returns-clause-no_more : goal.returns-clause-no_more
returns-clause-no_more g c = c.remove_index.ensures.no_more_blocks.for_move

pub returns-clause-enough : goal.returns-clause-enough
returns-clause-enough g c gap fits =
    let old = c.args.table.now in
    let fewer : length (order_of c.remove_index.new.table) < length (order_of old) = rw c.remove_index.ensures.taken (without-fewer (order_of old) c.args.ix ((c.requires.held.each c.args.ix).1 c.requires.live)) in
    c.remove_index.ensures.no_more_blocks.for_insert fewer gap fits
