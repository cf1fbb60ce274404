use Rattle.std.proofs.Common.{◌≤◌, ◌-◌, vec_len, vec_capacity, arith}
use Rattle.std.proofs.lemmas.List.Sorted.{IsPermutation-sym, IsPermutation-to_front}
use Rattle.iddqd_hash.proofs.CellLemmas.{slice_get_pushed, entries-listed, pair_at-listed, room-listed, UsesRoom-listed}
use Rattle.iddqd_hash.proofs.hash_table_reference.HashTablePairCells.add.Goals as goal

pub push_reserved-requires : goal.push_reserved-requires
push_reserved-requires g c =
    let room : 1 ≤ vec_capacity c.self.inside.pairs - vec_len c.self.inside.pairs =
    rw (← c.self.view_is, room-listed) at c.requires in
    omega arith

pub returns-clause-pair : goal.returns-clause-pair
returns-clause-pair g c =
    rw (pair_at-listed, c.push_reserved.ensures.items) (slice_get_pushed _ _ c.len-place.result (omega arith))

pub returns-clause-added : goal.returns-clause-added
returns-clause-added g c =
    rw (← c.self.view_is, entries-listed, entries-listed, c.push_reserved.ensures.items) (IsPermutation-sym _ _ (IsPermutation-to_front _ _))

pub returns-clause-memory : goal.returns-clause-memory
returns-clause-memory g c =
    let room : 1 ≤ vec_capacity c.self.inside.pairs - vec_len c.self.inside.pairs =
    rw (← c.self.view_is, room-listed) at c.requires in
    rw (← c.self.view_is) (UsesRoom-listed _ _ _ _ _ _ c.push_reserved.ensures.capacity (omega arith) (omega arith))
