use Rattle.iddqd_hash.specs.MapHashTable.{filed}
use Rattle.iddqd_map.proofs.IndexingLemmas.{Indexes-compacted}
use Rattle.iddqd_map.proofs.by_hash.ByHashOfUpkeep.remap.Goals as goal

pub remap-requires : goal.remap-requires
remap-requires g c =
    let (state, (s, is, valid, named)) = c.requires.names in
    (s, is.held, valid, named)

pub returns-clause-indexed : goal.returns-clause-indexed
returns-clause-indexed g c = λ state s is valid named.
    Indexes-compacted _ _ s (filed c.args.self.now.table) is (filed c.remap.new.table) (c.remap.ensures.renamed s is.held valid named)
