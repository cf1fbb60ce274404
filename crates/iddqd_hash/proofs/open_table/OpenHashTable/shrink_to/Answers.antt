use Rattle.std.proofs.Common.{◌≡◌, ◌≤◌, ◌<◌, inl, inr, [], length, ap, arith}
use Rattle.std.proofs.lemmas.Grind.{common_steps}
use Rattle.std.proofs.lemmas.List.{nil_from_length}
use Rattle.std.proofs.lemmas.List.Sorted.{IsPermutation-refl, length_permutation}
use Rattle.iddqd_hash.specs.HashTable.{capacity, entries, memory}
use Rattle.iddqd_hash.specs.OpenTable.{usable_of, IsPowerOfTwo}
use Rattle.iddqd_hash.specs.OpenTableSizes.{least_cells}
use Rattle.iddqd_hash.proofs.OpenTableLemmas.{entries-table_of, memory-table_of}
use Rattle.iddqd_hash.proofs.SizeLemmas.{Shrinks-same, Shrinks-placed}
use Rattle.iddqd_hash.proofs.LeastCellsLemmas.{enough-none, enough-table_of, enough-placed, needed-placed}
use Rattle.iddqd_hash.proofs.open_table.OpenHashTable.shrink_to.Goals as goal

pub give_back-requires : goal.give_back-requires
give_back-requires g c =
    let counted : c.self.inside.len ≡ length (entries c.args.self.now) =
    rw (← c.self.view_is, entries-table_of) c.self.invariant.sound.counted in
    nil_from_length _ (omega arith)

pub returns-then-needed-eq0-clause-contents : goal.returns-then-needed-eq0-clause-contents
returns-then-needed-eq0-clause-contents g c =
    let counted : c.self.inside.len ≡ length (entries c.args.self.now) =
    rw (← c.self.view_is, entries-table_of) c.self.invariant.sound.counted in
    let none : entries c.args.self.now ≡ [] = nil_from_length _ (omega arith) in
    rw (none, c.give_back.ensures.empty) (IsPermutation-refl [])

pub returns-then-count-len-clause-memory : goal.returns-then-count-len-clause-memory
returns-then-count-len-clause-memory g c =
    let counted : c.self.inside.len ≡ length (entries c.args.self.now) =
    rw (← c.self.view_is, entries-table_of) c.self.invariant.sound.counted in
    let held : memory c.args.self.now ≡ length c.self.inside.tags.items =
    rw (← c.self.view_is, memory-table_of) c.self.invariant.sound.probed.same_length in
    Shrinks-same c.args.least (length (entries c.args.self.now)) c.args.self.now _ (omega (arith, c.fewer_cells-count.ensures.few))

pub resize-requires-clause-fits : goal.resize-requires-clause-fits
resize-requires-clause-fits g c =
    let counted : c.self.inside.len ≡ length (entries c.args.self.now) =
    rw (← c.self.view_is, entries-table_of) c.self.invariant.sound.counted in
    elim c.fewer_cells-count.ensures.halved [ inl same ↦ absurd (omega arith) | inr fewer ↦ omega (arith, fewer.fits) ]

pub returns-clause-memory : goal.returns-clause-memory
returns-clause-memory g c =
    let counted : c.self.inside.len ≡ length (entries c.args.self.now) =
    rw (← c.self.view_is, entries-table_of) c.self.invariant.sound.counted in
    let held : memory c.args.self.now ≡ length c.self.inside.tags.items =
    rw (← c.self.view_is, memory-table_of) c.self.invariant.sound.probed.same_length in
    let fits : c.max-needed.result ≤ usable_of c.fewer_cells-count.result =
    elim c.fewer_cells-count.ensures.halved [ inl same ↦ absurd (omega arith) | inr fewer ↦ fewer.fits ] in
    let fewer : c.fewer_cells-count.result < length c.self.inside.tags.items =
    elim c.fewer_cells-count.ensures.halved [ inl same ↦ absurd (omega arith) | inr fewer ↦ omega (arith, fewer.fewer) ] in
    Shrinks-placed c.args.least (length (entries c.args.self.now)) c.args.self.now _ c.resize.result c.fewer_cells-count.result (omega arith) (omega arith) (omega arith) (omega (arith, c.fewer_cells-count.ensures.few))
    c.resize.ensures.refused c.resize.ensures.room c.resize.ensures.memory

pub resize-requires-clause-power : goal.resize-requires-clause-power
resize-requires-clause-power g c = elim c.fewer_cells-count.ensures.halved [ inl same ↦ absurd (omega arith) | inr fewer ↦ fewer.power ]

pub fewer_cells-count-requires-clause-count : goal.fewer_cells-count-requires-clause-count
fewer_cells-count-requires-clause-count g c = grind (arith, common_steps)

pub returns-then-needed-eq0-clause-enough : goal.returns-then-needed-eq0-clause-enough
returns-then-needed-eq0-clause-enough g c =
    enough-none _ c.give_back.ensures.memory (ap length c.give_back.ensures.empty)

pub returns-then-count-len-clause-enough : goal.returns-then-count-len-clause-enough
returns-then-count-len-clause-enough g c = rw (← c.self.view_is) (enough-table_of _ _ _ _ c.self.invariant.sound)

pub returns-clause-enough : goal.returns-clause-enough
returns-clause-enough g c =
    let counted : c.self.inside.len ≡ length (entries c.args.self.now) =
    rw (← c.self.view_is, entries-table_of) c.self.invariant.sound.counted in
    let was : least_cells (capacity c.args.self.now) ≤ memory c.args.self.now =
    rw (← c.self.view_is) (enough-table_of _ _ _ _ c.self.invariant.sound) in
    let power : IsPowerOfTwo c.fewer_cells-count.result =
    elim c.fewer_cells-count.ensures.halved [ inl same ↦ absurd (omega arith) | inr fewer ↦ fewer.power ] in
    let fits : c.max-needed.result ≤ usable_of c.fewer_cells-count.result =
    elim c.fewer_cells-count.ensures.halved [ inl same ↦ absurd (omega arith) | inr fewer ↦ fewer.fits ] in
    enough-placed c.args.self.now _ c.fewer_cells-count.result power c.resize.result c.resize.ensures.refused c.resize.ensures.room c.resize.ensures.memory
    (length_permutation _ _ c.resize.ensures.contents) (omega (arith, counted, fits)) was

pub returns-clause-needed : goal.returns-clause-needed
returns-clause-needed g c =
    let counted : c.self.inside.len ≡ length (entries c.args.self.now) =
    rw (← c.self.view_is, entries-table_of) c.self.invariant.sound.counted in
    let held : memory c.args.self.now ≡ length c.self.inside.tags.items =
    rw (← c.self.view_is, memory-table_of) c.self.invariant.sound.probed.same_length in
    let power : IsPowerOfTwo c.fewer_cells-count.result =
    elim c.fewer_cells-count.ensures.halved [ inl same ↦ absurd (omega arith) | inr fewer ↦ fewer.power ] in
    let fits : c.max-needed.result ≤ usable_of c.fewer_cells-count.result =
    elim c.fewer_cells-count.ensures.halved [ inl same ↦ absurd (omega arith) | inr fewer ↦ fewer.fits ] in
    let fewer : c.fewer_cells-count.result < length c.self.inside.tags.items =
    elim c.fewer_cells-count.ensures.halved [ inl same ↦ absurd (omega arith) | inr fewer ↦ omega (arith, fewer.fewer) ] in
    needed-placed c.args.self.now _ c.fewer_cells-count.result power _ c.resize.result c.resize.ensures.refused
    (omega (arith, fits, counted)) (omega (arith, fewer, held))
