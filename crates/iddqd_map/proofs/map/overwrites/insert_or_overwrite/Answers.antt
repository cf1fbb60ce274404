use Rattle.std.proofs.Common.{length}
use Rattle.iddqd_map.specs.Map.{map_with}
use Rattle.iddqd_map.proofs.OverwriteLemmas.{OverwritesAt-apart}
use Rattle.iddqd_map.proofs.map.overwrites.insert_or_overwrite.Goals as goal

pub returns-in-Ok-clause-overwrites : goal.returns-in-Ok-clause-overwrites
returns-in-Ok-clause-overwrites g c =
    let places = c.args.places.now in
    let old = map_with c.args.items.now (g.X.KeyIndex.capacity c.args.indexes.now) (g.X.KeyIndex.cells c.args.indexes.now) in
    let new = map_with c.insert.new.items (g.X.KeyIndex.capacity c.insert.new.indexes) (g.X.KeyIndex.cells c.insert.new.indexes) in
    OverwritesAt-apart g.X.KeyIndex.alike g.X.KeyIndex.grown (length places) old new c.args.item c.in-Ok.ix places
    c.in-Ok.ensures.inserts c.requires.vacant
