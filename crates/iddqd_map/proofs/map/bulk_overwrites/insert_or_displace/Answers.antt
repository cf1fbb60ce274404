use Rattle.std.proofs.Common.{[], refl, sym, subst}
use Rattle.iddqd.specs.LiveItems.{live_items}
use Rattle.iddqd_hash.specs.Asks.{CanAsk}
use Rattle.iddqd_map.specs.Map.{MapState, map_with}
use Rattle.iddqd_map.specs.BulkOverwrite.{GivesSomewhere, TakesAnywhere}
use Rattle.iddqd_map.proofs.DisplaceLemmas.{DisplacesAt-none}
use Rattle.iddqd_map.proofs.map.bulk_overwrites.insert_or_displace.Goals as goal

pub returns-in-Ok-clause-displaces : goal.returns-in-Ok-clause-displaces
returns-in-Ok-clause-displaces g c =
    let old = map_with c.args.items.now (g.X.KeyIndex.capacity c.args.indexes.now) (g.X.KeyIndex.cells c.args.indexes.now) in
    let new = map_with c.insert.new.items (g.X.KeyIndex.capacity c.insert.new.indexes) (g.X.KeyIndex.cells c.insert.new.indexes) in
    ([], DisplacesAt-none g.X.KeyIndex.alike g.X.KeyIndex.grown old new c.args.item c.in-Ok.ix c.in-Ok.ensures.inserts, refl)

pub displace-requires-clause-can_give : goal.displace-requires-clause-can_give
displace-requires-clause-can_give g c =
    let (given_back, reported, unchanged) = rw c.in-Err-Duplicate.field-0-is at c.in-Err-Duplicate.ensures.inserts in
    subst (λ (m : MapState _). CanAsk (TakesAnywhere g.G.FnMut) (GivesSomewhere g.G.FnMut) c.args.gone.now (live_items m.store))
    (sym unchanged) c.requires.can_give
