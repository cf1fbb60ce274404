use Rattle.std.specs.Cmp.{partial_equiv_from_equiv}
use Rattle.iddqd.proofs.LiveLemmas.{item_at}
use Rattle.iddqd_by_hash.proofs.FindLemmas.{IsLawful-from_bounds}
use Rattle.iddqd_groups.proofs.FilesLemmas.{FilesWithin-rebound}
use Rattle.iddqd_groups.proofs.by_hash_multi.ByHashMultiOfMoves.commit_move.Goals as goal

pub commit_move-requires-clause-filed : goal.commit_move-requires-clause-filed
commit_move-requires-clause-filed g c = (c.requires.indexed.files.held c.args.ix).1 c.requires.live

pub returns-clause-indexed : goal.returns-clause-indexed
returns-clause-indexed g c =
    let s = c.args.items.now.store in
    let (was, live) = item_at s c.args.ix c.requires.live in
    let lawful =
    IsLawful-from_bounds g.E.HashKey.eq g.E.HashKey.hash_input g.S.BuildHasher g.S.Hasher.Hasher c.args.state.now
    (partial_equiv_from_equiv g.met.E.HashKey.laws) g.met.E.HashKey.respects_eq in
    FilesWithin-rebound _ _ s c.args.self.now.table c.requires.indexed c.commit_move.new.table c.args.ix c.args.item.now
    was live lawful c.args.plan.now c.requires.planned
    c.commit_move.ensures.moved c.commit_move.ensures.slots
