use Rattle.std.proofs.Common.{◌≡◌, ◌≤◌}
use Rattle.iddqd.specs.ItemSet.{room}
use Rattle.iddqd.specs.LiveItems.{live_items}
use Rattle.iddqd.specs.Store.{live_count}
use Rattle.iddqd_hash.specs.Asks.{CanAsk}
use Rattle.iddqd_map.specs.KeyIndex.{IsIndexed}
use Rattle.iddqd_map.specs.BulkOverwrite.{GivesSomewhere, TakesAnywhere}
use Rattle.iddqd_map.specs.Sweep.{GivesPair}
use Rattle.iddqd_map.proofs.DisplaceLemmas.{Displacing}
use Rattle.iddqd_map.proofs.map.bulk_overwrites.give_reported.Given as goal

abbrev pub invariant-loop-next : goal.invariant-loop-next
invariant-loop-next g l = record {
  map : IsIndexed (g.X.KeyIndex.indexes l.indexes) l.state l.items.store;
  can : CanAsk (TakesAnywhere g.G.FnMut) (GivesSomewhere g.G.FnMut) l.gone
      (live_items l.fn.items.store);
  enough : (blocks : g.row.X-Blocks.Denot) → g.X.Changes.are_enough_after l.fn.indexes blocks
      → g.X.Changes.are_enough_after l.indexes blocks;
  displacing : Displacing (g.X.Changes.reports l.at) l.fn.items.store (GivesPair g.G.FnMut) l.fn.gone
      ((1 ≤ room l.items)
      × ((plan : g.row.X-InsertPlan.Denot) (blocks : g.row.X-Blocks.Denot)
      → g.X.Changes.are_enough_after l.fn.indexes blocks → g.X.Changes.has_room_for l.indexes plan blocks))
      l.items.store l.next l.gone;
  slots : l.items.capacity ≡ l.fn.items.capacity;
  capacity : g.X.KeyIndex.capacity l.indexes ≡ g.X.KeyIndex.capacity l.fn.indexes;
  cells : g.X.KeyIndex.cells l.indexes ≡ g.X.KeyIndex.cells l.fn.indexes;
}

abbrev pub decreases-loop-next : goal.decreases-loop-next
decreases-loop-next g l = live_count l.items.store
