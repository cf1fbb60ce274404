use Rattle.iddqd_groups.proofs.FilesLemmas.{FilesWithin-compacted}
use Rattle.iddqd_groups.proofs.by_hash_multi.ByHashMultiOfUpkeep.remap.Goals as goal

pub remap-requires : goal.remap-requires
remap-requires g c =
    let (state, (s, is, valid, named)) = c.requires.names in
    (s, is.files.held, valid, named)

pub returns-clause-indexed : goal.returns-clause-indexed
returns-clause-indexed g c = λ state s is valid named.
    FilesWithin-compacted _ _ s c.args.self.now.table is c.remap.new.table
    (c.remap.ensures.renamed s is.files.held valid named) c.remap.ensures.slots
