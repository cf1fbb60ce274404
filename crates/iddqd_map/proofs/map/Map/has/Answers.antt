use Rattle.std.proofs.Common.{◌∙◌, sym}
use Rattle.iddqd_map.proofs.EqualityLemmas.{IsLive-scanned, FindsItem-scanned, any_missed, any_found}
use Rattle.iddqd_map.proofs.map.Map.has.Goals as goal

pub index-requires : goal.index-requires
index-requires g c =
    IsLive-scanned c.self.inside.items.store (g.X.KeyIndex.same_keys c.args.item.now) c.in-Some.ix c.in-Some.ensures

pub returns-in-Some : goal.returns-in-Some
returns-in-Some g c =
    let s = c.self.inside.items.store in
    let test = g.X.KeyIndex.same_keys c.args.item.now in
    let found = FindsItem-scanned s test c.in-Some.ix c.index.result.now c.in-Some.ensures c.index.ensures in
    rw (← c.self.view_is)
    (c.eq.ensures
    ∙ sym (any_found g.X.KeyIndex.same_keys g.T.PartialEq.eq c.args.item.now s c.index.result.now found))

pub returns-in-None : goal.returns-in-None
returns-in-None g c =
    let s = c.self.inside.items.store in
    rw (← c.self.view_is)
    (sym (any_missed g.X.KeyIndex.same_keys g.T.PartialEq.eq c.args.item.now s c.in-None.ensures))
