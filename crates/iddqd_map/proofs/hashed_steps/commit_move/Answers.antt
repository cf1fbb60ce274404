use Rattle.std.proofs.Common.{◌∙◌, ◌≡◌, subst}
use Rattle.std.specs.Option.{IfSome}
use Rattle.iddqd.proofs.LiveLemmas.{item_at}
use Rattle.iddqd_hash.specs.MapHashTable.{filed}
use Rattle.iddqd_by_hash.specs.Hashed.{Hashing, hashing_of}
use Rattle.iddqd_map.proofs.HashLemmas.{filed_under}
use Rattle.iddqd_map.proofs.hashed_steps.commit_move.Goals as goal
use Rattle.iddqd_map.proofs.hashed_steps.commit_move.Goals.{in-Some, in-None}

pub move_from-requires : goal.move_from-requires
move_from-requires g c =
    let s = c.args.items.now.store in
    let key_of = g.E.HashKey.key_of in
    let hashing : Hashing _ = hashing_of g.E.HashKey.eq g.E.HashKey.hash_input g.S.BuildHasher g.S.Hasher.Hasher
    c.args.state.now in
    let (was, live) = item_at s c.args.ix c.requires.live in
    let hashed : c.match-known.from ≡ hashing.hash_of (key_of was) =
    elim c.match-known.branch [
      | in-Some w ↦ w.from-is ∙ subst (λ known. IfSome known (λ hash. hash ≡ hashing.hash_of (key_of was)))
          w.in-Some.is (c.requires.known was live)
      | in-None w ↦
          let same : w.index.result.now ≡ was = cc (w.index.ensures, live) in
          rw (← same) (w.from-is ∙ w.hash_of-from.ensures)
    ]
    in
    filed_under key_of hashing s (filed c.args.table.now) c.args.ix was c.match-known.from c.requires.placed live hashed
