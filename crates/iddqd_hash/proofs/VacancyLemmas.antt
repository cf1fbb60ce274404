-- What an entry without a pair has of a reserve.
use Rattle.std.proofs.Common.{◌≡◌, ◌≤◌, ℕ, Ok, Err, refl, arith}
use Rattle.iddqd_hash.specs.Entries.{IsVacancy}
use Rattle.iddqd_hash.specs.HashTable.{Table, room}
use Rattle.iddqd_hash.specs.Sizes.{Reserves}

-- once room for one was made, an entry has it
pub IsVacancy-reserved :
    {T A E : Type 0} (hash : ℕ) (old new : Table T) (done : A)
    → Reserves {E = E} 1 old (Ok done) new
    → IsVacancy hash old hash new
IsVacancy-reserved hash old new done made =
    record {
      same_hash = refl;
      roomy = made.reserved;
      had_room = λ had. (made.had_room had).1;
      room_stays = made.room_stays;
      memory_stays = made.memory_stays;
      few = made.few;
    }

-- if a reserve of room for one pair failed, there was no room
pub Reserves-refused :
    {T A E : Type 0} (old new : Table T) (error : E)
    → Reserves {A = A} 1 old (Err error) new
    → room old ≡ 0
Reserves-refused old new error kept =
    let none : 1 ≤ room old → ⊥ = λ some. cc ((kept.had_room some).0) in
    omega arith
