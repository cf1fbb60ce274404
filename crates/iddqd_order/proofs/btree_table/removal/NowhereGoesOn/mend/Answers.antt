use Rattle.iddqd_order.proofs.Names.{◌-◌}
use Rattle.iddqd_order.proofs.btree_table.removal.NowhereGoesOn.mend.Goals as goal

pub returns-clause-mended : goal.returns-clause-mended
returns-clause-mended c = c.mend.ensures.mended (c.args._height - 1) c.requires.lacks

pub returns-clause-counted : goal.returns-clause-counted
returns-clause-counted c = c.mend.ensures.counted (c.args._height - 1) c.requires.lacks
