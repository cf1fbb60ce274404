use Rattle.std.proofs.Common.{◌∙◌, refl, ap}
use Rattle.iddqd.specs.ItemSet.{SizedStore}
use Rattle.iddqd_map.specs.Sweep.{GivesPair}
use Rattle.iddqd_map.proofs.DisplaceLemmas.{DisplacesAt-given, HasNoHit-given}
use Rattle.iddqd_map.proofs.OverwriteLemmas.{memory_same}
use Rattle.iddqd_map.proofs.map.bulk_overwrites.displace.Goals as goal

pub insert_in_room-requires-clause-apart : goal.insert_in_room-requires-clause-apart
insert_in_room-requires-clause-apart g c =
    let s = c.args.items.now.store in
    let hits = c.next_reported-first.ensures.reported s c.args.item c.requires.reported in
    HasNoHit-given g.X.KeyIndex.alike g.X.KeyIndex.grown (GivesPair g.G.FnMut) (g.X.Changes.reports c.args.at.now) s c.args.item
    hits _ _ _ c.give_reported.ensures.given

pub returns-clause-displaces : goal.returns-clause-displaces
returns-clause-displaces g c =
    let s = c.args.items.now.store in
    let hits = c.next_reported-first.ensures.reported s c.args.item c.requires.reported in
    let some = c.next_reported-first.ensures.some s c.args.item c.requires.reported in
    let gave = c.give_reported.ensures in
    let put = c.insert_in_room.ensures in
    let slots = ap (λ (s : SizedStore _). s.capacity) put.stored ∙ gave.slots in (
      gave.given.displaced,
      DisplacesAt-given g.X.KeyIndex.alike g.X.KeyIndex.grown (GivesPair g.G.FnMut) (g.X.Changes.reports c.args.at.now) s c.args.item
          hits _ _ _ gave.given _ _ _ refl some put.index (ap (λ (s : SizedStore _). s.store) put.stored)
          (memory_same _ _ _ _ _ _ slots (put.capacity ∙ gave.capacity) (put.cells ∙ gave.cells)),
      gave.given.given,
    )
