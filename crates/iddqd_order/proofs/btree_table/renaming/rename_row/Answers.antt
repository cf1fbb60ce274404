use Rattle.std.proofs.Common.{arith}
use Rattle.std.proofs.lemmas.Grind.{common_steps}
use Rattle.iddqd_order.proofs.Names.{rules, map_over_more, remapped}
use Rattle.iddqd_order.proofs.btree_table.renaming.rename_row.Goals as goal

pub loop-i-preserved : goal.loop-i-preserved
loop-i-preserved c = search (rules, map_over_more (remapped c.args.remap.now))

pub set-requires : goal.set-requires
set-requires c = grind (arith, common_steps)

pub get-requires : goal.get-requires
get-requires c = grind (arith, common_steps)
