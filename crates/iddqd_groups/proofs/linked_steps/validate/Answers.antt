use Rattle.iddqd_map.proofs.CountLemmas.{Validates-table}
use Rattle.iddqd_groups.proofs.linked_steps.validate.Goals as goal

pub returns : goal.returns
returns g c =
    Validates-table c.args.items.now.store c.args.table.now.filed c.len.result c.args.compactness c.requires.held
    c.requires.valid c.len.ensures c.requires.allowed c.validate_table.result c.validate_table.ensures.validates
