use Rattle.std.specs.Vec.{vec_len, vec_capacity}
use Rattle.std.proofs.Common.{◌≡◌, ◌≤◌, length, map}
use Rattle.iddqd.specs.Compaction.{rank, new_name, numbers}
use Rattle.iddqd.proofs.item_set.ItemSet.new_names.Given as goal

abbrev pub invariant-loop-slot : goal.invariant-loop-slot
invariant-loop-slot g l = record {
  named : l.names.items ≡ map (new_name l.self.store) (numbers l.slot-index);
  ranked : l.next ≡ rank l.self.store l.slot-index;
  pushed : vec_len l.names ≡ l.slot-index;
  fits : length l.slot-items ≤ vec_capacity l.names;
}
