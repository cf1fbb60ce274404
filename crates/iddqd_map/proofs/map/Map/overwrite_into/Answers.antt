use Rattle.std.proofs.Common.{length}
use Rattle.iddqd_map.proofs.RoomLemmas.{OverwritesInto-count, OverwritesInto-not_refused, OverwritesInto-room, OverwritesInto-unchanged}
use Rattle.iddqd_map.proofs.map.Map.overwrite_into.Goals as goal

pub returns-clause-inserts : goal.returns-clause-inserts
returns-clause-inserts g c = rw (← c.self.view_is) c.insert_or_overwrite.ensures.overwrites

pub returns-clause-count : goal.returns-clause-count
returns-clause-count g c =
    rw (← c.self.view_is)
    (OverwritesInto-count g.X.KeyIndex.alike g.X.KeyIndex.grown _ _ c.args.item c.self.invariant.valid
    (length c.args.places.now) g.X.KeyIndex.may_need_memory c.insert_or_overwrite.result _
    c.insert_or_overwrite.ensures.overwrites)

pub returns-clause-unchanged : goal.returns-clause-unchanged
returns-clause-unchanged g c =
    rw (← c.self.view_is)
    (OverwritesInto-unchanged g.X.KeyIndex.alike g.X.KeyIndex.grown _ _ c.args.item c.self.invariant.valid
    (length c.args.places.now) g.X.KeyIndex.may_need_memory c.insert_or_overwrite.result _
    c.insert_or_overwrite.ensures.overwrites)

pub returns-clause-not_refused : goal.returns-clause-not_refused
returns-clause-not_refused g c =
    rw (← c.self.view_is)
    (OverwritesInto-not_refused g.X.KeyIndex.alike g.X.KeyIndex.grown _ _ c.args.item c.self.invariant.valid
    (length c.args.places.now) g.X.KeyIndex.may_need_memory c.insert_or_overwrite.result _
    c.insert_or_overwrite.ensures.overwrites)

pub returns-clause-room : goal.returns-clause-room
returns-clause-room g c =
    rw (← c.self.view_is)
    (OverwritesInto-room g.X.KeyIndex.alike g.X.KeyIndex.grown _ _ c.args.item c.self.invariant.valid
    (length c.args.places.now) g.X.KeyIndex.may_need_memory c.insert_or_overwrite.result _
    c.insert_or_overwrite.ensures.overwrites)
