use Rattle.std.proofs.Common.{ap, is_some}
use Rattle.iddqd_groups.proofs.by_hash_multi.ByHashMultiOfStepsInGroupHere.next_in_group.Goals as goal

pub next_in_group-requires-clause-present : goal.next_in_group-requires-clause-present
next_in_group-requires-clause-present g c =
    let (item, live, passes) = c.requires.hit in (c.requires.indexed.files.held c.args.ix).1 (ap is_some live)
