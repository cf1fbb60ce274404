use Rattle.std.proofs.Common.{◌-◌, ◌^◌, ◌≤◌, ◌<◌, length}
use Rattle.iddqd_hash.specs.OpenTable.{NoneFull}
use Rattle.iddqd_hash.specs.OpenWalk.{IsAhead}
use Rattle.iddqd_hash.proofs.open_table.places.FullPlaces.next.Given as goal

-- none of the places that were passed is full
abbrev pub invariant-sixteens : goal.invariant-sixteens
invariant-sixteens l =
    IsAhead l.tags l.self.at l.self.end l.self.mask
    × (l.fn.self.at ≤ l.self.at)
    × NoneFull l.tags l.fn.self.at (l.self.at - l.fn.self.at)
    × (l.self.mask < 2 ^ 64)

abbrev pub decreases-sixteens : goal.decreases-sixteens
decreases-sixteens l = length l.tags - l.self.end
