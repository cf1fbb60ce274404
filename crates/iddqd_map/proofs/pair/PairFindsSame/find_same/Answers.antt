use Rattle.std.proofs.Common.{rules, ◌≡◌, Some, true, false}
use Rattle.iddqd.specs.Store.{get}
use Rattle.iddqd_map.proofs.FoundLemmas.{hit_live}
use Rattle.iddqd_map.specs.PairLaws.{HasNoHit-both, AnswersScan-both, HasNoHit-unlike}
use Rattle.iddqd_map.proofs.pair.PairFindsSame.find_same.Goals as goal

pub returns-in_err-ix : goal.returns-in_err-ix
returns-in_err-ix g c =
    rw c.from_residual.ensures (HasNoHit-both g.A.KeyIndex.same_keys g.B.KeyIndex.same_keys c.args.items.now.store c.args.item.now c.in_err-ix.ensures)

pub index-requires : goal.index-requires
index-requires g c = hit_live c.args.items.now.store (g.A.KeyIndex.same_keys c.args.item.now) c.in_ok-ix.ix c.in_ok-ix.ensures

pub returns-then-is_same : goal.returns-then-is_same
returns-then-is_same g c =
    let s = c.args.items.now.store in
    let live : get s c.in_ok-ix.ix ≡ Some c.index.result.now = c.index.ensures in
    let same : g.B.KeyIndex.same_keys c.args.item.now c.index.result.now ≡ true = search rules in
    AnswersScan-both g.A.KeyIndex.same_keys g.B.KeyIndex.same_keys s c.args.item.now c.in_ok-ix.ix c.index.result.now live c.in_ok-ix.ensures same

pub returns-else-is_same : goal.returns-else-is_same
returns-else-is_same g c =
    let s = c.args.items.now.store in
    let live : get s c.in_ok-ix.ix ≡ Some c.index.result.now = c.index.ensures in
    let unlike : g.B.KeyIndex.same_keys c.args.item.now c.index.result.now ≡ false = search rules in
    HasNoHit-unlike g.A.KeyIndex.same_keys g.B.KeyIndex.same_keys s c.args.item.now c.in_ok-ix.ix c.index.result.now live c.in_ok-ix.ensures unlike
