use Rattle.std.proofs.Common.{rules, ◌≡◌, Some, true, false}
use Rattle.iddqd.specs.Store.{get}
use Rattle.iddqd_map.specs.Map.{shares}
use Rattle.iddqd_map.specs.PairLaws.{HasNoHit-both, AnswersScan-both, HasNoHit-unlike}
use Rattle.iddqd_map.specs.Several.{both_keys}
use Rattle.iddqd_map.proofs.FoundLemmas.{hit_live}
use Rattle.iddqd_map.proofs.tri_hash_map.index.TriIndexOfFindsSame.find_same.Goals as goal

pub returns-in_err-ix : goal.returns-in_err-ix
returns-in_err-ix g c = let first = shares g.A.HashKey.key_of g.A.HashKey.eq in
    let later = both_keys (shares g.B.HashKey.key_of g.B.HashKey.eq) (shares g.C.HashKey.key_of g.C.HashKey.eq) in
    rw c.from_residual.ensures (HasNoHit-both first later c.args.items.now.store c.args.item.now c.in_err-ix.ensures)

pub index-requires : goal.index-requires
index-requires g c = hit_live c.args.items.now.store (shares g.A.HashKey.key_of g.A.HashKey.eq c.args.item.now) c.in_ok-ix.ix c.in_ok-ix.ensures

pub returns-then-shares_later_keys : goal.returns-then-shares_later_keys
returns-then-shares_later_keys g c = let first = shares g.A.HashKey.key_of g.A.HashKey.eq in
    let later = both_keys (shares g.B.HashKey.key_of g.B.HashKey.eq) (shares g.C.HashKey.key_of g.C.HashKey.eq) in
    let s = c.args.items.now.store in
    let live : get s c.in_ok-ix.ix ≡ Some c.index.result.now = c.index.ensures in
    let same : later c.args.item.now c.index.result.now ≡ true = search rules in
    AnswersScan-both first later s c.args.item.now c.in_ok-ix.ix c.index.result.now live c.in_ok-ix.ensures same

pub returns-else-shares_later_keys : goal.returns-else-shares_later_keys
returns-else-shares_later_keys g c = let first = shares g.A.HashKey.key_of g.A.HashKey.eq in
    let later = both_keys (shares g.B.HashKey.key_of g.B.HashKey.eq) (shares g.C.HashKey.key_of g.C.HashKey.eq) in
    let s = c.args.items.now.store in
    let live : get s c.in_ok-ix.ix ≡ Some c.index.result.now = c.index.ensures in
    let unlike : later c.args.item.now c.index.result.now ≡ false = search rules in
    HasNoHit-unlike first later s c.args.item.now c.in_ok-ix.ix c.index.result.now live c.in_ok-ix.ensures unlike
