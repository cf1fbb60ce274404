use Rattle.std.proofs.Common.{arith}
use Rattle.iddqd.proofs.LiveLemmas.{item_at}
use Rattle.iddqd_hash.specs.MapHashTable.{filed}
use Rattle.iddqd_map.proofs.IndexingLemmas.{Indexes-removed}
use Rattle.iddqd_map.proofs.by_hash.ByHashOfChanges.remove.Goals as goal

pub returns-clause-indexed : goal.returns-clause-indexed
returns-clause-indexed g c =
    let s = c.args.items.now.store in
    let (item, live) = item_at s c.args.ix c.requires.live in
    rw c.remove_live.ensures.taken (Indexes-removed _ _ s (filed c.args.self.now.table) c.requires.indexed c.args.ix item live)

pub returns-clause-roomy : goal.returns-clause-roomy
returns-clause-roomy g c = λ plan blocks enough. omega (arith, c.remove_live.ensures.room)
