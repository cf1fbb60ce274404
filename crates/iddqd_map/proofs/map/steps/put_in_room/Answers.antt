use Rattle.std.proofs.Common.{rules}
use Rattle.iddqd.specs.Store.{IsFull}
use Rattle.iddqd.proofs.RoomLemmas.{not_full}
use Rattle.iddqd_map.proofs.MapLemmas.{IsIndexed-inserted}
use Rattle.iddqd_map.proofs.map.steps.put_in_room.Goals as goal

pub returns-clause-map : goal.returns-clause-map
returns-clause-map g c =
    let items = c.args.items.now in
    let s = items.store in
    let state = c.args.state.now in
    let free : IsFull s → ⊥ = not_full s items.capacity c.requires.room in
    let planned : g.X.Changes.is_planned c.args.indexes.now state s c.args.item c.plan-plan.result = search rules in
    let done = c.insert.ensures.indexed state s c.args.item c.requires.map.indexed c.requires.map.valid free c.next_in_room-ix.ensures.index c.requires.apart c.requires.hashed planned in
    IsIndexed-inserted _ state s _ c.args.item (search rules) c.requires.map.valid free done
