use Rattle.std.proofs.Common.{arith}
use Rattle.iddqd.proofs.LiveLemmas.{item_at}
use Rattle.iddqd_groups.proofs.FilesLemmas.{FilesWithin-removed}
use Rattle.iddqd_groups.proofs.by_hash_multi.ByHashMultiOfChanges.remove.Goals as goal

pub remove-requires : goal.remove-requires
remove-requires g c = (c.requires.indexed.files.held c.args.ix).1 c.requires.live

pub returns-clause-indexed : goal.returns-clause-indexed
returns-clause-indexed g c =
    let s = c.args.items.now.store in
    let (item, live) = item_at s c.args.ix c.requires.live in
    FilesWithin-removed _ _ s c.args.self.now.table c.requires.indexed c.remove.new.self c.args.ix item live
    c.remove.ensures.removed c.remove.ensures.slots

pub returns-clause-roomy : goal.returns-clause-roomy
returns-clause-roomy g c = λ plan blocks enough.
    omega (arith, c.remove.ensures.one_less, c.remove.ensures.holds_all, c.remove.ensures.memory.same_capacity)
