use Rattle.std.specs.Cmp.{partial_equiv_from_equiv}
use Rattle.iddqd.proofs.LiveLemmas.{item_at}
use Rattle.iddqd_hash.specs.MapHashTable.{filed}
use Rattle.iddqd_by_hash.proofs.FindLemmas.{IsLawful-from_bounds}
use Rattle.iddqd_map.proofs.IndexingLemmas.{Indexes-rebound}
use Rattle.iddqd_map.proofs.by_hash.ByHashOfMoves.commit_move.Goals as goal

pub returns-clause-indexed : goal.returns-clause-indexed
returns-clause-indexed g c =
    let s = c.args.items.now.store in
    let (was, live) = item_at s c.args.ix c.requires.live in
    let lawful = IsLawful-from_bounds g.E.HashKey.eq g.E.HashKey.hash_input g.S.BuildHasher g.S.Hasher.Hasher c.args.state.now (partial_equiv_from_equiv g.met.E.HashKey.laws) g.met.E.HashKey.respects_eq in
    rw c.commit_move.ensures.moved (Indexes-rebound _ _ s (filed c.args.self.now.table) c.requires.indexed c.args.ix c.args.item.now was live lawful c.args.plan.now c.requires.planned)
