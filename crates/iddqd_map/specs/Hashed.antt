-- Whether an index is filed anew when its item is replaced.
use Rattle.std.specs.Prelude.{Bool, true, false}
use Rattle.iddqd_by_hash.specs.declared.hashed_move.Move.{Move}
use Rattle.iddqd_by_hash.specs.declared.hashed_move.Move.TheVariants.{Stays, To}

abbrev pub moves : Move → Bool
moves Stays = false
moves (To hash) = true
