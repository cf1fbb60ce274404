use Rattle.std.proofs.Common.{◌≡◌, ◌-◌, ◌≤◌, length}
use Rattle.iddqd.specs.ItemSet.{room}
use Rattle.iddqd_map.specs.KeyIndex.{IsIndexed}
use Rattle.iddqd_map.proofs.OverwriteLemmas.{Taking}
use Rattle.iddqd_map.proofs.map.overwrites.remove_reported.Given as goal

abbrev pub invariant-loop-next : goal.invariant-loop-next
invariant-loop-next g l = record {
  map : IsIndexed (g.X.KeyIndex.indexes l.indexes) l.state l.items.store;
  enough : (blocks : g.row.X-Blocks.Denot) → g.X.Changes.are_enough_after l.fn.indexes blocks
      → g.X.Changes.are_enough_after l.indexes blocks;
  taking : Taking (g.X.Changes.reports l.at) (length l.fn.places) l.fn.items.store l.places l.items.store l.next
      l.count;
  within : l.count ≤ length l.fn.places;
  slots : l.items.capacity ≡ l.fn.items.capacity;
  room : l.count ≤ room l.items;
  roomy : 1 ≤ l.count → (plan : g.row.X-InsertPlan.Denot) (blocks : g.row.X-Blocks.Denot)
      → g.X.Changes.are_enough_after l.fn.indexes blocks → g.X.Changes.has_room_for l.indexes plan blocks;
  capacity : g.X.KeyIndex.capacity l.indexes ≡ g.X.KeyIndex.capacity l.fn.indexes;
  cells : g.X.KeyIndex.cells l.indexes ≡ g.X.KeyIndex.cells l.fn.indexes;
}

abbrev pub decreases-loop-next : goal.decreases-loop-next
decreases-loop-next g l = length l.fn.places - l.count
