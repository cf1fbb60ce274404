use Rattle.std.proofs.Common.{◌≡◌, ◌<◌, ◌↔◌, ℕ, false, length, slice_index_or, IsTrue}
use Rattle.iddqd.specs.Reads.{IsFirstLive}
use Rattle.iddqd.proofs.item_set.ItemSet.disjoint_valid.Given as goal

abbrev pub invariant-loop-place : goal.invariant-loop-place
invariant-loop-place g l = record {
  one_each : length l.valid ≡ length l.indexes;
  told :
      (other : ℕ) → other < l.place
      → IsTrue (slice_index_or l.valid other false) ↔ IsFirstLive l.self.store l.indexes other;
}
