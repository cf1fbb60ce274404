use Rattle.iddqd_map.proofs.RoomLemmas.{Inserts-count, Inserts-not_refused, Inserts-room, Inserts-room_kept}
use Rattle.iddqd_map.proofs.map.Map.insert_unique.Goals as goal

pub returns-clause-count : goal.returns-clause-count
returns-clause-count g c =
    rw (← c.self.view_is)
    (Inserts-count g.X.KeyIndex.alike g.X.KeyIndex.grown _ _ c.args.item c.self.invariant.valid g.X.Changes.conflicts
    c.insert.result c.insert.ensures.inserts)

pub returns-clause-not_refused : goal.returns-clause-not_refused
returns-clause-not_refused g c =
    rw (← c.self.view_is)
    (Inserts-not_refused g.X.KeyIndex.alike g.X.KeyIndex.grown _ _ c.args.item c.self.invariant.valid g.X.Changes.conflicts
    c.insert.result c.insert.ensures.inserts)

pub returns-clause-room : goal.returns-clause-room
returns-clause-room g c =
    rw (← c.self.view_is)
    (Inserts-room g.X.KeyIndex.alike g.X.KeyIndex.grown _ _ c.args.item c.self.invariant.valid g.X.Changes.conflicts
    c.insert.result c.insert.ensures.inserts)

pub returns-clause-room_kept : goal.returns-clause-room_kept
returns-clause-room_kept g c =
    rw (← c.self.view_is)
    (Inserts-room_kept g.X.KeyIndex.alike g.X.KeyIndex.grown _ _ c.args.item c.self.invariant.valid g.X.Changes.conflicts
    c.insert.result c.insert.ensures.inserts)
