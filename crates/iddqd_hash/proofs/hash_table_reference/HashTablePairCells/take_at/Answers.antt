use Rattle.std.proofs.Common.{◌<◌, length, refl, arith}
use Rattle.std.proofs.lemmas.Option.{slice_get_read}
use Rattle.std.proofs.lemmas.List.Sorted.{IsPermutation-swap_remove}
use Rattle.iddqd_hash.proofs.CellLemmas.{entries-listed, pair_at-listed, room-listed, within_listed, KeepsMemory-listed}
use Rattle.iddqd_hash.proofs.hash_table_reference.HashTablePairCells.take_at.Goals as goal

pub swap_remove-requires : goal.swap_remove-requires
swap_remove-requires g c =
    let within : c.args.place < length c.self.inside.pairs.items =
    within_listed _ _ _ _ (rw (← c.self.view_is) at c.requires) in
    omega arith

pub returns-clause-removed : goal.returns-clause-removed
returns-clause-removed g c =
    let within : c.args.place < length c.self.inside.pairs.items =
    within_listed _ _ _ _ (rw (← c.self.view_is) at c.requires) in
    rw (← c.self.view_is) (
    record {
      hash = c.swap_remove.result.0;
      is_pair = rw pair_at-listed (slice_get_read _ _ c.args.place _ refl within c.swap_remove.ensures.value);
      others_stay =
          rw (entries-listed, entries-listed, c.swap_remove.ensures.items) (IsPermutation-swap_remove _ c.args.place _ within c.swap_remove.ensures.value);
    })

pub returns-clause-memory : goal.returns-clause-memory
returns-clause-memory g c =
    let within : c.args.place < length c.self.inside.pairs.items =
    within_listed _ _ _ _ (rw (← c.self.view_is) at c.requires) in
    rw (← c.self.view_is) (KeepsMemory-listed _ _ _ _ _ _ c.swap_remove.ensures.capacity (omega arith) (omega arith))

pub returns-clause-room : goal.returns-clause-room
returns-clause-room g c =
    let within : c.args.place < length c.self.inside.pairs.items =
    within_listed _ _ _ _ (rw (← c.self.view_is) at c.requires) in
    rw (← c.self.view_is, room-listed, room-listed) (omega arith)
