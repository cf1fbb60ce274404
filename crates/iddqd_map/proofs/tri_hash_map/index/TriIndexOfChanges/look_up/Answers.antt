use Rattle.iddqd_map.specs.Map.{shares}
use Rattle.iddqd_map.proofs.ThreeKeysLemmas.{FindsPosition-three}
use Rattle.iddqd_map.proofs.tri_hash_map.index.TriIndexOfChanges.look_up.Goals as goal

pub returns : goal.returns
returns g c = let first = shares g.A.HashKey.key_of g.A.HashKey.eq in
    let second = shares g.B.HashKey.key_of g.B.HashKey.eq in let third = shares g.C.HashKey.key_of g.C.HashKey.eq in
    rw (c.clash_of.ensures, c.err.ensures.value, c.err-2.ensures.value, c.err-3.ensures.value) (FindsPosition-three first second third c.args.items.now.store c.args.item.now c.look_up-first.result c.look_up-second.result c.look_up-third.result c.look_up-first.ensures c.look_up-second.ensures c.look_up-third.ensures)
