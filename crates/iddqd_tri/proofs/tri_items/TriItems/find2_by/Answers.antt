use Rattle.std.proofs.Common.{subst}
use Rattle.iddqd.specs.MapHash.{hash_one}
use Rattle.iddqd_tri.specs.TriKeys.{ItemKey, item_key}
use Rattle.iddqd_tri.specs.TriCalls.{FindsOne}
use Rattle.iddqd_tri.proofs.TriCallLemmas.{FindsOne-exact}
use Rattle.iddqd_tri.proofs.tri_items.TriItems.find2_by.Goals as goal

pub returns : goal.returns
returns g c =
    let key : ItemKey _ _ _ = item_key g.S.BuildHasher g.S.Hasher.Hasher g.T.TriHashItem.second_key g.T.Key2.PartialEq.eq g.T.Key2.Hash.hash_input in
    let test = g.Q.Equivalent.equivalent c.args.query.now in
    subst (λ s. FindsOne key s.state (hash_one g.S.BuildHasher g.S.Hasher.Hasher s.state.hasher (g.Q.Hash.hash_input c.args.query.now)) test c.find.result)
    c.self.view_is
    (FindsOne-exact key _ _ c.self.invariant.second _ test c.find.result
    (rw (← c.query_hash-hash.ensures) c.find.ensures))
