use Rattle.std.specs.Fn.{TakesAt, CalledAt}
use Rattle.iddqd_hash.proofs.AskLemmas.{CanAsk-joined}
use Rattle.iddqd_hash.proofs.CellLemmas.{entries-listed, pair_at-listed}
use Rattle.iddqd_hash.proofs.hash_table_reference.HashTablePairCells.place_of.Goals as goal

pub find_place-requires : goal.find_place-requires
find_place-requires g c =
    let can = CanAsk-joined (TakesAt g.F.FnMut) (CalledAt g.F.FnMut) _ _ c.requires.each c.requires.again in
    rw (c.as_slice.ensures.value) (rw (← c.self.view_is, entries-listed) at can)

pub returns : goal.returns
returns g c =
    rw (← c.self.view_is, entries-listed, pair_at-listed, ← c.as_slice.ensures.value) c.find_place.ensures
