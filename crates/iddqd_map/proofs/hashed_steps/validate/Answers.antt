use Rattle.iddqd_hash.specs.MapHashTable.{filed}
use Rattle.iddqd_map.proofs.CountLemmas.{Validates-table}
use Rattle.iddqd_map.proofs.hashed_steps.validate.Goals as goal

pub returns : goal.returns
returns g c =
    Validates-table c.args.items.now.store (filed c.args.table.now) c.len.result c.args.compactness c.requires.held c.requires.valid c.len.ensures c.requires.allowed c.validate_table.result c.validate_table.ensures.validates
