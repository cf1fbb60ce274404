use Rattle.std.proofs.Common.{◌<◌, length, refl, arith}
use Rattle.std.proofs.lemmas.Option.{slice_get_read}
use Rattle.iddqd_hash.proofs.CellLemmas.{pair_at-listed, within_listed}
use Rattle.iddqd_hash.proofs.hash_table_reference.HashTablePairCells.pair_at.Goals as goal

pub index-requires : goal.index-requires
index-requires g c =
    let within : c.args.place < length c.self.inside.pairs.items =
    within_listed _ _ _ _ (rw (← c.self.view_is) at c.requires) in
    omega arith

pub returns : goal.returns
returns g c =
    let within : c.args.place < length c.self.inside.pairs.items =
    within_listed _ _ _ _ (rw (← c.self.view_is) at c.requires) in
    rw (← c.self.view_is, pair_at-listed) (slice_get_read _ _ c.args.place _ refl within c.index.ensures)
