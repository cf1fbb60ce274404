use Rattle.std.specs.Cmp.{partial_equiv_from_equiv}
use Rattle.iddqd_hash.specs.MapHashTable.{filed}
use Rattle.iddqd_by_hash.specs.Hashed.{Hashing, hashing_of}
use Rattle.iddqd_by_hash.proofs.FindLemmas.{IsLawful-from_bounds}
use Rattle.iddqd_map.proofs.HashLemmas.{PlansMove-planned}
use Rattle.iddqd_map.proofs.by_hash.ByHashOfMoves.plan_move.Goals as goal

pub returns : goal.returns
returns g c =
    let state = c.args.state.now in
    let lawful = IsLawful-from_bounds g.E.HashKey.eq g.E.HashKey.hash_input g.S.BuildHasher g.S.Hasher.Hasher state (partial_equiv_from_equiv g.met.E.HashKey.laws) g.met.E.HashKey.respects_eq in
    let hashing : Hashing _ = hashing_of g.E.HashKey.eq g.E.HashKey.hash_input g.S.BuildHasher g.S.Hasher.Hasher state in
    PlansMove-planned g.E.HashKey.key_of hashing lawful c.args.items.now.store (filed c.args.self.now.table) c.requires.indexed c.args.ix c.args.item.now c.plan_move.result c.plan_move.ensures
