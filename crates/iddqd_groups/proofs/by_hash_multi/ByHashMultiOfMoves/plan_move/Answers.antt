use Rattle.iddqd_by_hash.specs.Hashed.{Hashing, hashing_of}
use Rattle.iddqd_map.specs.declared.no_conflict.NoConflict.{NoConflict}
use Rattle.iddqd_groups.proofs.FilesLemmas.{PlansMove-free}
use Rattle.iddqd_groups.proofs.by_hash_multi.ByHashMultiOfMoves.plan_move.Goals as goal

pub returns : goal.returns
returns g c =
    let hashing : Hashing _ =
    hashing_of g.E.HashKey.eq g.E.HashKey.hash_input g.S.BuildHasher g.S.Hasher.Hasher c.args.state.now in
    PlansMove-free g.E.HashKey.key_of hashing c.args.items.now.store c.args.ix c.args.item.now c.move_of.result
    c.move_of.ensures {C = NoConflict} (λ at. ⊥)
