use Rattle.std.proofs.Common.{ap, is_some}
use Rattle.iddqd_groups.proofs.FilesLemmas.{FilesWithin-removed}
use Rattle.iddqd_groups.proofs.by_hash_multi.ByHashMultiOfStepsInGroupHere.take_in_group.Goals as goal

pub take_in_group-requires-clause-present : goal.take_in_group-requires-clause-present
take_in_group-requires-clause-present g c =
    let (item, live, passes) = c.requires.hit in (c.requires.indexed.files.held c.args.ix).1 (ap is_some live)

pub returns-clause-indexed : goal.returns-clause-indexed
returns-clause-indexed g c =
    let s = c.args.items.now.store in
    let (item, live, passes) = c.requires.hit in
    FilesWithin-removed _ _ s c.args.self.now.table c.requires.indexed c.take_in_group.new.table c.args.ix item live
    c.take_in_group.ensures.removed c.take_in_group.ensures.slots
