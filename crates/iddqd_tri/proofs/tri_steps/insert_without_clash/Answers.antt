use Rattle.std.proofs.Common.{ap, arith}
use Rattle.std.proofs.lemmas.Grind.{common_steps}
use Rattle.iddqd.specs.ItemSet.{SizedStore}
use Rattle.iddqd.specs.GrowHandle.{handle_set}
use Rattle.iddqd_tri.specs.TriTables.{maps_of}
use Rattle.iddqd_tri.proofs.TriLemmas.{AreUnfiled-next}
use Rattle.iddqd_tri.proofs.TriMemoryLemmas.{SlotsGrow-one}
use Rattle.iddqd_tri.proofs.tri_steps.insert_without_clash.Goals as goal

pub insert-requires-clause-new : goal.insert-requires-clause-new
insert-requires-clause-new g c =
    let s = c.args.items.now.store in
    rw (c.reserve.ensures.contents, c.insert-ix.ensures.index, c.in-Ok.ensures.contents)
    (AreUnfiled-next s (maps_of c.args.tables.now) c.requires.held c.requires.valid)

pub returns-clause-slots : goal.returns-clause-slots
returns-clause-slots g c =
    let grow = c.in-Ok.ensures in
    let grows = SlotsGrow-one c.args.items.now (handle_set c.in-Ok.handle) c.requires.valid (λ full. let is = grow.full.1 full in cc) grow.kept grow.grown grow.capacity in
    let is = ap (λ (s : SizedStore _). s.capacity) c.insert-ix.ensures.inserted in
    let room = grows.had_room in
    record { had_room = λ fits. (let same = room fits in grind (arith, common_steps)); slots_at_least = grind (arith, common_steps); few = grind (arith, common_steps) }
