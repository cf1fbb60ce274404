use Rattle.std.specs.List.{AllZip}
use Rattle.std.specs.Vec.{vec_len, vec_capacity}
use Rattle.std.proofs.Common.{◌≡◌, length, take}
use Rattle.iddqd_hash.proofs.hash_table_reference.copies.cloned_pairs.Given as goal

abbrev pub invariant-loop-pair : goal.invariant-loop-pair
invariant-loop-pair g l = record {
  clones : AllZip (λ e w. (w.0 ≡ e.0) × g.T.Clone.is_clone e.1 w.1) (take l.pair-index l.pairs) l.copies.items;
  pushed : vec_len l.copies ≡ l.pair-index;
  exact : vec_capacity l.copies ≡ length l.pairs;
}
