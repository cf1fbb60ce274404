use Rattle.iddqd_by_hash.specs.Hashed.{hashing_of}
use Rattle.iddqd_map.specs.Hashed.{moves}
use Rattle.iddqd_map.specs.Indexing.{Plans}
use Rattle.iddqd_map.specs.Map.{shares}
use Rattle.iddqd_map.proofs.ThreeKeysLemmas.{FindsMove-three}
use Rattle.iddqd_map.proofs.tri_hash_map.index.TriIndexOfMoves.plan_move.Goals as goal

pub returns : goal.returns
returns g c = let first = shares g.A.HashKey.key_of g.A.HashKey.eq in
    let second = shares g.B.HashKey.key_of g.B.HashKey.eq in let third = shares g.C.HashKey.key_of g.C.HashKey.eq in
    let state = c.args.state.now in
    let is_first = Plans g.A.HashKey.key_of (hashing_of g.A.HashKey.eq g.A.HashKey.hash_input g.S.BuildHasher g.S.Hasher.Hasher state) in
    let is_second = Plans g.B.HashKey.key_of (hashing_of g.B.HashKey.eq g.B.HashKey.hash_input g.S.BuildHasher g.S.Hasher.Hasher state) in
    let is_third = Plans g.C.HashKey.key_of (hashing_of g.C.HashKey.eq g.C.HashKey.hash_input g.S.BuildHasher g.S.Hasher.Hasher state) in
    rw c.all_moves.ensures (FindsMove-three first second third c.args.items.now.store is_first is_second is_third moves c.args.ix c.args.item.now c.plan_move-first.result c.plan_move-second.result c.plan_move-third.result c.plan_move-first.ensures c.plan_move-second.ensures c.plan_move-third.ensures)
