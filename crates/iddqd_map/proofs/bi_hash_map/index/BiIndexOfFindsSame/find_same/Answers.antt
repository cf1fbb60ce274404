use Rattle.std.proofs.Common.{rules, ◌≡◌, Some, true, false}
use Rattle.iddqd.specs.Store.{get}
use Rattle.iddqd_map.specs.Map.{shares}
use Rattle.iddqd_map.specs.PairLaws.{HasNoHit-both, AnswersScan-both, HasNoHit-unlike}
use Rattle.iddqd_map.proofs.FoundLemmas.{hit_live}
use Rattle.iddqd_map.proofs.bi_hash_map.index.BiIndexOfFindsSame.find_same.Goals as goal

pub returns-in_err-ix : goal.returns-in_err-ix
returns-in_err-ix g c = let first = shares g.A.HashKey.key_of g.A.HashKey.eq in
    let second = shares g.B.HashKey.key_of g.B.HashKey.eq in
    rw c.from_residual.ensures (HasNoHit-both first second c.args.items.now.store c.args.item.now c.in_err-ix.ensures)

pub index-requires : goal.index-requires
index-requires g c = hit_live c.args.items.now.store (shares g.A.HashKey.key_of g.A.HashKey.eq c.args.item.now) c.in_ok-ix.ix c.in_ok-ix.ensures

pub returns-then-is_same : goal.returns-then-is_same
returns-then-is_same g c = let first = shares g.A.HashKey.key_of g.A.HashKey.eq in
    let second = shares g.B.HashKey.key_of g.B.HashKey.eq in
    let s = c.args.items.now.store in
    let live : get s c.in_ok-ix.ix ≡ Some c.index.result.now = c.index.ensures in
    let same : second c.args.item.now c.index.result.now ≡ true = search rules in
    AnswersScan-both first second s c.args.item.now c.in_ok-ix.ix c.index.result.now live c.in_ok-ix.ensures same

pub returns-else-is_same : goal.returns-else-is_same
returns-else-is_same g c = let first = shares g.A.HashKey.key_of g.A.HashKey.eq in
    let second = shares g.B.HashKey.key_of g.B.HashKey.eq in
    let s = c.args.items.now.store in
    let live : get s c.in_ok-ix.ix ≡ Some c.index.result.now = c.index.ensures in
    let unlike : second c.args.item.now c.index.result.now ≡ false = search rules in
    HasNoHit-unlike first second s c.args.item.now c.in_ok-ix.ix c.index.result.now live c.in_ok-ix.ensures unlike
