use Rattle.std.proofs.Common.{◌≡◌, ◌≤◌, ℕ, Contains, length}
use Rattle.iddqd_keys.specs.Scan.{IsLive}
use Rattle.iddqd_groups.specs.HashedGroup.{hits_among}
use Rattle.iddqd_groups.proofs.hashed_group.next_hit.Given as goal

abbrev pub invariant-passing : goal.invariant-passing
invariant-passing g l =
    ((ix : ℕ) → Contains l.indexes.rest ix → IsLive l.items.store ix)
    × (hits_among l.items.store (g.Q.ItemHashQuery.stands_for_item l.query) l.fn.indexes.rest
    ≡ hits_among l.items.store (g.Q.ItemHashQuery.stands_for_item l.query) l.indexes.rest)
    × (l.indexes.bound ≤ l.fn.indexes.bound)

abbrev pub decreases-passing : goal.decreases-passing
decreases-passing g l = length l.indexes.rest
