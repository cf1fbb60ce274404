use Rattle.iddqd_tri.specs.Clashes.{clashing}
use Rattle.iddqd_tri.specs.TriTables.{maps_of}
use Rattle.iddqd_keys.proofs.RemovalLemmas.{AreLiveInTurn-rising, IsValid-removed_all}
use Rattle.iddqd_tri.proofs.ClashLemmas.{Contains-listed, IsIncreasing-listed}
use Rattle.iddqd_tri.proofs.TriLemmas.{AreUnfiled-next}
use Rattle.iddqd_tri.proofs.tri_steps.replace_clashes.Goals as goal

pub insert-requires-clause-new : goal.insert-requires-clause-new
insert-requires-clause-new g c =
    let s = c.args.items.now.store in
    let a = c.args.clashes.first in
    let b = c.args.clashes.second in
    let d = c.args.clashes.third in
    let rising = IsIncreasing-listed a b d c.requires.ordered in
    let live = AreLiveInTurn-rising s (clashing c.args.clashes) rising (λ ix here. c.requires.live ix ((Contains-listed ix a b d).0 here)) in
    let after = c.remove_clashes-removed in
    rw c.store_in_room-ix.ensures.index
    (AreUnfiled-next after.new.items.store (maps_of after.new.tables) after.ensures.held
    (rw after.ensures.removed (IsValid-removed_all s (clashing c.args.clashes) live c.requires.valid)))
