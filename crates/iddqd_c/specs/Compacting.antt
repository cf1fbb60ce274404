-- What a compaction answers and leaves: the new index of each old slot in a buffer.
use Rattle.std.specs.Prelude.{◌≡◌, ◌≢◌, ◌⊎◌, ◌≤◌, ◌<◌, ℕ, List, [], map, ◌++◌, drop, length, slice_index_or}
use Rattle.iddqd.specs.Store.{Store, sentinel, slot_count}
use Rattle.iddqd.specs.Compaction.{new_name, numbers}
use Rattle.iddqd.specs.declared.index_remap.IndexRemap.{IndexRemap}
use Rattle.iddqd.specs.declared.index_remap.IndexRemap.TheVariants.{Identity, Permuted}
use Rattle.iddqd_map.specs.Calls.{Compacts}
use Rattle.iddqd_codes.specs.declared.TheConstants.{OK, MEMORY, SMALL}
use Rattle.iddqd_c.specs.Held.{Items}

-- the new index of a slot by a remap, `SENTINEL` for one that isn't listed
abbrev pub name_in : IndexRemap → ℕ → ℕ
name_in Identity slot = slot
name_in (Permuted names) slot = slice_index_or names.items slot sentinel

-- The new index of each slot stands at the start of a buffer: the rank of a live one, which is its old index if no slot
-- is vacant, and `SENTINEL` for a vacant one. The places behind them are as they were.
abbrev pub FillsNewIndexes : {T : Type 0} → Store T → List ℕ → List ℕ → Type 0
FillsNewIndexes s was indexes = indexes ≡ map (new_name s) (numbers (slot_count s)) ++ drop (slot_count s) was

-- What a compaction answers and leaves, by its code; the memory stays. At `SMALL` the buffer has fewer places than
-- there are slots. At `MEMORY` a slot is vacant.
abbrev pub CompactsInto : ℕ → ℕ → List ℕ → List ℕ → Items → Items → Type 0
CompactsInto code count was indexes old new =
    let slots = slot_count old.store in
    ((code ≡ OK) × (slots ≤ length was) × (count ≡ slots) × FillsNewIndexes old.store was indexes × Compacts old new)
    ⊎ ((code ≡ SMALL) × (length was < slots) × (count ≡ slots) × (new ≡ old))
    ⊎ ((code ≡ MEMORY) × (slots ≤ length was) × (old.store.free ≢ []) × (new ≡ old))
