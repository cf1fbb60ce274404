-- How a table of indexes under hashes changes when the item at a live index is replaced, maybe by one with another key.
use Rattle.std.specs.Prelude.{ℕ}
use Rattle.std.specs.Ordering.{nat_cmp}
use Rattle.std.specs.FinMap as finite
use Rattle.std.specs.FinMap.{FinMap}
use Rattle.iddqd_by_hash.specs.declared.hashed_move.Move.{Move}
use Rattle.iddqd_by_hash.specs.declared.hashed_move.Move.TheVariants.{Stays, To}

-- P, if the plan is `Stays`; otherwise nothing is said
abbrev pub IfStays : Move → Type 0 → Type 0
IfStays Stays P = P
IfStays (To hash) P = Unit {0}

-- the hashes of the indexes after one index was moved
abbrev pub moved : FinMap nat_cmp ℕ → ℕ → Move → FinMap nat_cmp ℕ
moved hashes ix (To hash) = finite.insert (finite.remove hashes ix) ix hash
moved hashes ix Stays = hashes
