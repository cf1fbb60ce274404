use Rattle.iddqd_hash.specs.MapHashTable.{filed}
use Rattle.iddqd_by_hash.proofs.HoldsLemmas.{Renames-by_rank, CanRemap-held, one_name-held}
use Rattle.iddqd_map.proofs.hashed_steps.remap.Goals as goal

pub remap_indexes-requires-clause-can_remap : goal.remap_indexes-requires-clause-can_remap
remap_indexes-requires-clause-can_remap g c =
    let (s, is, valid, named) = c.requires in
    CanRemap-held s (filed c.args.table.now) is c.args.remap.now valid named

pub remap_indexes-requires-clause-distinct : goal.remap_indexes-requires-clause-distinct
remap_indexes-requires-clause-distinct g c =
    let (s, is, valid, named) = c.requires in
    one_name-held s (filed c.args.table.now) is c.args.remap.now valid named

pub returns-clause-renamed : goal.returns-clause-renamed
returns-clause-renamed g c = λ s is valid named.
    let old = filed c.args.table.now in
    let after = filed c.remap_indexes.new.self in
    Renames-by_rank s old is c.args.remap.now valid named after c.remap_indexes.ensures.renamed
