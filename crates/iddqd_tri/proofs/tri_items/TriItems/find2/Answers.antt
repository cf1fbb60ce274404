use Rattle.std.proofs.Common.{refl}
use Rattle.iddqd_by_hash.proofs.FindLemmas.{IsLawful-from_bounds, StandsForOne-key}
use Rattle.iddqd_tri.specs.TriKeys.{ItemKey, item_key, hashing_in}
use Rattle.iddqd_tri.proofs.tri_items.TriItems.find2.Goals as goal

pub returns : goal.returns
returns g c =
    let key : ItemKey _ _ _ = item_key g.S.BuildHasher g.S.Hasher.Hasher g.T.TriHashItem.second_key g.T.Key2.PartialEq.eq g.T.Key2.Hash.hash_input in
    let hasher = c.args.self.now.state.hasher in
    let lawful = IsLawful-from_bounds g.T.Key2.PartialEq.eq g.T.Key2.Hash.hash_input g.S.BuildHasher g.S.Hasher.Hasher hasher g.met.T.Key2.PartialEq.laws g.met.T.Key2.Hash.respects_eq in
    c.find2_by.ensures.as_scan (StandsForOne-key (hashing_in key hasher) c.args.key.now _ lawful refl)
