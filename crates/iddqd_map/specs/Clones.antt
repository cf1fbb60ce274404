-- What a copy of a map is, given what a clone of an item is.
use Rattle.std.specs.Prelude.{◌≡◌, ◌≤◌}
use Rattle.iddqd.specs.Store.{slot_count}
use Rattle.iddqd.specs.Clones.{IsStoreClone}
use Rattle.iddqd_map.specs.Map.{MapState}

-- The copy has a clone of each item under the item's index. Its memory is for exactly the slots that there are, and its
-- tables have no more cells than those of the map.
pub record IsMapClone {T : Type 0} (is_clone : T → T → Type 0) (m copy : MapState T) : Type 0 where
  pub store : IsStoreClone is_clone m.store copy.store
  pub slots : copy.memory.slots ≡ slot_count m.store
  pub few_cells : copy.memory.cells ≤ m.memory.cells
