use Rattle.std.proofs.Common.{◌≡◌, ℕ, Contains, IsSome, length}
use Rattle.std.specs.FinMap as finite
use Rattle.iddqd_groups.specs.HashedGroup.{hits_among}
use Rattle.iddqd_groups.specs.LinkedTable.{behind}
use Rattle.iddqd_map.specs.Groups.{listed_from}
use Rattle.iddqd_groups.proofs.group_steps.first_from.Given as goal

abbrev pub invariant-loop-at : goal.invariant-loop-at
invariant-loop-at g l = record {
  present : (j : ℕ) → Contains (listed_from (behind l.table) l.at) j → IsSome (finite.get l.table.filed j);
  same : hits_among l.items.store (g.Q.ItemHashQuery.stands_for_item l.query) (listed_from (behind l.table) l.fn.from)
      ≡ hits_among l.items.store (g.Q.ItemHashQuery.stands_for_item l.query) (listed_from (behind l.table) l.at);
}

abbrev pub decreases-loop-at : goal.decreases-loop-at
decreases-loop-at g l = length (listed_from (behind l.table) l.at)
