use Rattle.std.proofs.Common.{arith}
use Rattle.iddqd_hash.proofs.CellLemmas.{Reserves-unneeded}
use Rattle.iddqd_hash.proofs.open_table.OpenHashTable.try_reserve.Goals as goal

pub returns-then-additional-room-clause-memory : goal.returns-then-additional-room-clause-memory
returns-then-additional-room-clause-memory g c = Reserves-unneeded _ _ _ (omega (arith, c.room.ensures))
