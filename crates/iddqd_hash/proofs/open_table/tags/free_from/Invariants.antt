use Rattle.std.proofs.Common.{length}
use Rattle.iddqd_hash.specs.OpenRebuild.{IsPastFull}
use Rattle.iddqd_hash.proofs.OpenWalkLemmas.{places_left}
use Rattle.iddqd_hash.proofs.open_table.tags.free_from.Given as goal

abbrev pub invariant-loop-at : goal.invariant-loop-at
invariant-loop-at l = IsPastFull l.tags l.hash l.at

abbrev pub decreases-loop-at : goal.decreases-loop-at
decreases-loop-at l = places_left (length l.tags) l.hash l.at
