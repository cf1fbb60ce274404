use Rattle.iddqd_map.specs.Map.{shares}
use Rattle.iddqd_map.proofs.TwoKeysLemmas.{FindsPosition-two}
use Rattle.iddqd_map.proofs.bi_hash_map.index.BiIndexOfChanges.look_up.Goals as goal

pub returns : goal.returns
returns g c = let first = shares g.A.HashKey.key_of g.A.HashKey.eq in
    let second = shares g.B.HashKey.key_of g.B.HashKey.eq in
    rw (c.clash_of.ensures, c.err.ensures.value, c.err-2.ensures.value) (FindsPosition-two first second c.args.items.now.store c.args.item.now c.look_up-first.result c.look_up-second.result c.look_up-first.ensures c.look_up-second.ensures)
