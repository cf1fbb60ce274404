use Rattle.std.proofs.Common.{◌≡◌, ◌<◌, length, vec_len, arith}
use Rattle.iddqd_hash.specs.OpenTable.{slots_of}
use Rattle.iddqd_hash.proofs.OpenTableLemmas.{entries-table_of}
use Rattle.iddqd_hash.proofs.OpenWalkUnderLemmas.{Begins, Begins-ended, Begins-home}
use Rattle.iddqd_hash.proofs.open_table.OpenHashTable.iter_hash.Goals as goal
use Rattle.iddqd_hash.proofs.open_table.OpenHashTable.iter_hash.Goals.{then-count-eq0, else-count-eq0}

begins :
    (g : _) (c : goal.Joined-count-eq0 g)
    → Begins c.self.inside.tags.items (slots_of g.C.Cell.slot c.self.inside.tags.items c.self.inside.cells.items)
    c.args.hash c.if-count-eq0.result c.self.inside.len
begins g c =
    elim c.if-count-eq0.branch [
      | then-count-eq0 w ↦ rw w.result-is (Begins-ended _ _ _ _ _ c.self.invariant.sound (omega arith))
      | else-count-eq0 w ↦
          let some : 0 < length c.self.inside.tags.items = omega arith in
          let long : vec_len c.self.inside.tags ≡ length c.self.inside.tags.items = omega arith in
          rw (w.result-is, w.home_of.ensures, c.len-count.ensures, long) (Begins-home _ _ _ _ _ c.self.invariant.sound some)
    ]

pub invariant_of-result : goal.invariant_of-result
invariant_of-result g c = rw (c.as_slice.ensures.value, c.as_slice-2.ensures.value) (begins g c).walk

pub returns : goal.returns
returns g c =
    rw (← c.self.view_is, entries-table_of, c.as_slice.ensures.value, c.as_slice-2.ensures.value) (begins g c).all
