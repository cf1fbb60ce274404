use Rattle.std.proofs.Common.{◌↔◌, ◌∙◌, ap, sym, subst}
use Rattle.iddqd_tri.specs.Clashes.{IsOneOf}
use Rattle.iddqd_tri.specs.TriKeys.{Three, TriKeys, tri_keys_of, hashes_in}
use Rattle.iddqd_tri.specs.TriState.{ClashesAt}
use Rattle.iddqd_tri.specs.TriTables.{tri_state_of}
use Rattle.iddqd_tri.proofs.TriLemmas.{AreLawful-from_bounds}
use Rattle.iddqd_tri.proofs.TriCallLemmas.{shares_found, ClashesAt-found}
use Rattle.iddqd_tri.proofs.tri_items.TriItems.clashes.Goals as goal

pub returns-clause-clashes : goal.returns-clause-clashes
returns-clause-clashes g c = λ ix.
    let keys : TriKeys _ _ _ _ _ = tri_keys_of g.T.TriHashItem g.T.Key1.PartialEq.eq g.T.Key1.Hash.hash_input g.T.Key2.PartialEq.eq g.T.Key2.Hash.hash_input g.T.Key3.PartialEq.eq g.T.Key3.Hash.hash_input g.S.BuildHasher g.S.Hasher.Hasher in
    let s = tri_state_of c.self.inside.state c.self.inside.items.store c.self.inside.tables in
    let item = c.args.item.now in
    let lawful = AreLawful-from_bounds g.T.TriHashItem _ _ _ _ _ _ g.S.BuildHasher g.S.Hasher.Hasher s.hasher g.met.T.Key1.PartialEq.laws g.met.T.Key1.Hash.respects_eq g.met.T.Key2.PartialEq.laws g.met.T.Key2.Hash.respects_eq g.met.T.Key3.PartialEq.laws g.met.T.Key3.Hash.respects_eq in
    let hashed = c.requires ∙ ap (λ t. hashes_in keys t.state.hasher item) (sym c.self.view_is) in
    let o = c.self.invariant in
    let found = ClashesAt-found keys s.store item ix _ _ _
    (shares_found keys.first s _ o.first item _ _ lawful.first (ap (λ (h : Three _). h.first) hashed) c.find_key.ensures ix)
    (shares_found keys.second s _ o.second item _ _ lawful.second (ap (λ (h : Three _). h.second) hashed) c.find_key-2.ensures ix)
    (shares_found keys.third s _ o.third item _ _ lawful.third (ap (λ (h : Three _). h.third) hashed) c.find_key-3.ensures ix) in
    let same = c.of.ensures.same ix in
    subst (λ t. IsOneOf c.of.result.first c.of.result.second c.of.result.third ix ↔ ClashesAt keys t.state.store item ix) c.self.view_is
    (λ here. found.0 (same.0 here), λ clash. same.1 (found.1 clash))
