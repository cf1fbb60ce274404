use Rattle.std.proofs.Common.{◌≤◌, ◌+◌, arith, subst, max, refl}
use Rattle.iddqd_hash.specs.HashTable.{memory, room}
use Rattle.iddqd_hash.specs.MapHashTable.{filed}
use Rattle.iddqd_hash.specs.Sizes.{most_cells}
use Rattle.iddqd_by_hash.proofs.HashedCountLemmas.{len-held}
use Rattle.iddqd_map.proofs.hashed_steps.make_room.Goals as goal

pub returns-clause-had_room : goal.returns-clause-had_room
returns-clause-had_room g c = λ roomy.
    let m = filed c.args.table.now in
    let counted = len-held c.args.items.now.store m c.requires in
    let more : 1 ≤ room c.args.table.now = omega (arith, roomy, counted, c.try_reserve.ensures.counted) in
    let did = c.try_reserve.ensures.memory.had_room more in
    (did.0, rw did.1 (refl {a = c.args.table.now}))

pub returns-clause-few : goal.returns-clause-few
returns-clause-few g c =
    let m = filed c.args.table.now in
    let counted = len-held c.args.items.now.store m c.requires in
    let few = subst (λ n. memory c.try_reserve.new.self ≤ max (memory c.args.table.now) (most_cells (n + 1))) counted c.try_reserve.ensures.few in
    omega (arith, few)
