use Rattle.std.proofs.Common.{◌≡◌, ◌≤◌, ◌<◌, ◌-◌, length, refl, arith}
use Rattle.iddqd_hash.specs.HashTable.{entries, room, memory}
use Rattle.iddqd_hash.specs.OpenTable.{usable_of}
use Rattle.iddqd_hash.specs.Sizes.{most_cells}
use Rattle.iddqd_hash.proofs.CellLemmas.{Reserves-denied}
use Rattle.iddqd_hash.proofs.OpenTableLemmas.{entries-table_of, room-table_of, memory-table_of, Reserves-placed}
use Rattle.iddqd_hash.proofs.open_table.OpenHashTable.grow.Goals as goal

pub count_for-requires : goal.count_for-requires
count_for-requires g c =
    let needed = rw c.in_ok-needed.ensures.ok_part at c.checked_add.ensures in
    omega (arith, needed.1, c.requires)

pub resize-requires-clause-fits : goal.resize-requires-clause-fits
resize-requires-clause-fits g c =
    let fits : c.in_ok-needed.needed ≤ usable_of c.in_ok-count.count =
    rw c.in_ok-count.ensures.ok_part at c.count_for.ensures.fits in
    let needed = rw c.in_ok-needed.ensures.ok_part at c.checked_add.ensures in
    rw (← c.self.view_is, entries-table_of) (omega (arith, fits, needed.1, c.self.invariant.sound.counted))

pub returns-in_err-needed-clause-memory : goal.returns-in_err-needed-clause-memory
returns-in_err-needed-clause-memory g c =
    Reserves-denied _ _ c.from_residual.result c.from_residual.ensures.0 (omega (arith, c.requires))

pub returns-in_err-count-clause-memory : goal.returns-in_err-count-clause-memory
returns-in_err-count-clause-memory g c =
    Reserves-denied _ _ c.from_residual-in_err-count.result c.from_residual-in_err-count.ensures.0 (omega (arith, c.requires))

pub returns-clause-contents : goal.returns-clause-contents
returns-clause-contents g c = c.resize.ensures.contents

pub returns-clause-memory : goal.returns-clause-memory
returns-clause-memory g c =
    let fits : c.in_ok-needed.needed ≤ usable_of c.in_ok-count.count =
    rw c.in_ok-count.ensures.ok_part at c.count_for.ensures.fits in
    let needed = rw c.in_ok-needed.ensures.ok_part at c.checked_add.ensures in
    let counted : c.self.inside.len ≡ length (entries c.args.self.now) =
    rw (← c.self.view_is, entries-table_of) c.self.invariant.sound.counted in
    let roomy : room c.args.self.now ≡ usable_of (memory c.args.self.now) - length (entries c.args.self.now) =
    rw (← c.self.view_is, room-table_of, memory-table_of, entries-table_of) refl in
    let short : room c.args.self.now < c.args.additional = omega (arith, c.requires) in
    let enough : c.args.additional ≤ usable_of c.in_ok-count.count - length (entries c.args.self.now) =
    omega (arith, fits, needed.1, counted) in
    let more : memory c.args.self.now ≤ c.in_ok-count.count = omega (arith, fits, needed.1, counted, roomy, short) in
    let few : c.in_ok-count.count ≤ most_cells c.in_ok-needed.needed =
    rw c.in_ok-count.ensures.ok_part at c.count_for.ensures.few in
    Reserves-placed _ _ _ c.resize.result _ _ short enough more (omega (arith, few, needed.1, counted)) c.resize.ensures.refused c.resize.ensures.room c.resize.ensures.memory
