use Rattle.std.proofs.Common.{refl}
use Rattle.iddqd_hash.specs.MapHashTableEntry.{entry_pair, vacant_hash}
use Rattle.iddqd_hash.proofs.VacancyLemmas.{IsVacancy-reserved, Reserves-refused}
use Rattle.iddqd_hash.proofs.hash_table.MapHashTable.entry.Goals as goal

pub returns-in-Some : goal.returns-in-Some
unfolding entry_pair
returns-in-Some g c =
    ((refl, λ w. refl, tt), record { found = rw (← c.hash_one-hash.ensures) c.in-Some.ensures; same_table = refl; missed = tt; vacant = tt; contents = tt; refused = tt; same_reference = refl; unchanged = tt })

pub returns : goal.returns
unfolding vacant_hash
returns g c =
    let vacancy = IsVacancy-reserved _ _ _ _ (rw c.in_default-try_reserve.is at c.try_reserve.ensures.memory) in
    ((refl, λ w. refl, tt), record { found = tt; same_table = tt; missed = rw (← c.hash_one-hash.ensures) c.in_default.ensures; vacant = rw (← c.hash_one-hash.ensures) vacancy; contents = c.try_reserve.ensures.contents; refused = tt; same_reference = refl; unchanged = tt })

pub returns-in-Err : goal.returns-in-Err
returns-in-Err g c =
    let kept = rw c.in-Err.is at c.try_reserve.ensures.memory in
    ((refl, λ w. tt, kept.refused), record { found = tt; same_table = tt; missed = rw (← c.hash_one-hash.ensures) c.in_default.ensures; vacant = tt; contents = tt; refused = Reserves-refused _ _ _ kept; same_reference = tt; unchanged = tt })
