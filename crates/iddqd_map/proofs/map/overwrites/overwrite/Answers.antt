use Rattle.std.proofs.Common.{◌∙◌, inr, refl, ap}
use Rattle.iddqd.specs.ItemSet.{SizedStore}
use Rattle.iddqd_map.proofs.OverwriteLemmas.{HasNoHit-taken, OverwritesAt-done, memory_same}
use Rattle.iddqd_map.proofs.map.overwrites.overwrite.Goals as goal

pub insert_in_room-requires-clause-apart : goal.insert_in_room-requires-clause-apart
insert_in_room-requires-clause-apart g c =
    let s = c.args.items.now.store in
    let hits = c.next_reported-first.ensures.reported s c.args.item c.requires.reported in
    HasNoHit-taken g.X.KeyIndex.alike g.X.KeyIndex.grown (g.X.Changes.reports c.args.at.now) s c.args.item hits _ _ _ c.remove_reported.ensures.taken

pub returns-in-Err-clause-overwrites : goal.returns-in-Err-clause-overwrites
returns-in-Err-clause-overwrites g c =
    let s = c.args.items.now.store in
    let (ix, here) = c.next_reported-first.ensures.some s c.args.item c.requires.reported in (
      inr (record {
        given_back = refl;
        conflict = (ix, (c.next_reported-first.ensures.reported s c.args.item c.requires.reported ix).0 here);
        lacks = c.in-Err.ensures.may_need_memory;
        past = c.in-Err.ensures.past;
        unchanged = refl;
      }),
      c.requires.vacant,
    )

pub returns-clause-overwrites : goal.returns-clause-overwrites
returns-clause-overwrites g c =
    let s = c.args.items.now.store in
    let hits = c.next_reported-first.ensures.reported s c.args.item c.requires.reported in
    let some = c.next_reported-first.ensures.some s c.args.item c.requires.reported in
    let took = c.remove_reported.ensures in
    let put = c.insert_in_room.ensures in
    let slots = ap (λ (s : SizedStore _). s.capacity) put.stored ∙ took.slots in
    OverwritesAt-done g.X.KeyIndex.alike g.X.KeyIndex.grown (g.X.Changes.reports c.args.at.now) s c.args.item hits _ _ _ took.taken _ _ _ refl some put.index (ap (λ (s : SizedStore _). s.store) put.stored)
    (memory_same _ _ _ _ _ _ slots (put.capacity ∙ took.capacity) (put.cells ∙ took.cells))
