-- The words of the refusals, and the items that they return.
use Rattle.std.specs.Prelude.{ℕ, List, ◌++◌, Option, Some, None, codes}
use Rattle.iddqd.specs.declared.item_set.GrowError.{GrowError}
use Rattle.iddqd.specs.declared.item_set.GrowError.TheVariants.{Full as NoPlace, Memory as NoRoom}
use Rattle.iddqd_map.specs.declared.refusal.InsertRefusal.{InsertRefusal}
use Rattle.iddqd_map.specs.declared.refusal.InsertRefusal.TheVariants.{Duplicate, Full, Memory}
use Rattle.iddqd_map.specs.declared.refusal.OverwriteRefusal.{OverwriteRefusal}
use Rattle.iddqd_map.specs.declared.refusal.OverwriteRefusal.TheVariants.{Full as NoSlot, Memory as NoMemory}
use Rattle.iddqd_map.specs.declared.refusal.ReplaceRefusal.{ReplaceRefusal}
use Rattle.iddqd_map.specs.declared.refusal.ReplaceRefusal.TheVariants.{Missing, Duplicate as Taken, Memory as Refused}

-- the refusal of an item for which the store can't grow
abbrev pub refusal_of : {T C : Type 0} → GrowError → T → InsertRefusal T C
refusal_of NoPlace item = Full item
refusal_of NoRoom item = Memory item

-- the text of a duplicate, given the text of its conflict
abbrev pub duplicate_text : Option (List ℕ) → Option (List ℕ)
duplicate_text (Some place) = Some (codes "duplicate " ++ place)
duplicate_text None = None

-- the text of each, given the text of a conflict
abbrev pub insert_refusal_text : {T C : Type 0} → (C → Option (List ℕ)) → InsertRefusal T C → Option (List ℕ)
insert_refusal_text place_text (Duplicate item at) = duplicate_text (place_text at)
insert_refusal_text place_text (Full item) = Some (codes "full")
insert_refusal_text place_text (Memory item) = Some (codes "no memory")

abbrev pub overwrite_refusal_text : {T : Type 0} → OverwriteRefusal T → List ℕ
overwrite_refusal_text (NoSlot item) = codes "full"
overwrite_refusal_text (NoMemory item) = codes "no memory"

abbrev pub replace_refusal_text : {T C : Type 0} → (C → Option (List ℕ)) → ReplaceRefusal T C → Option (List ℕ)
replace_refusal_text place_text (Missing item) = Some (codes "missing")
replace_refusal_text place_text (Taken item at) = duplicate_text (place_text at)
replace_refusal_text place_text (Refused item) = Some (codes "no memory")

-- the item that each returns
abbrev pub insert_refusal_item : {T C : Type 0} → InsertRefusal T C → T
insert_refusal_item (Duplicate item at) = item
insert_refusal_item (Full item) = item
insert_refusal_item (Memory item) = item

abbrev pub overwrite_refusal_item : {T : Type 0} → OverwriteRefusal T → T
overwrite_refusal_item (NoSlot item) = item
overwrite_refusal_item (NoMemory item) = item

abbrev pub replace_refusal_item : {T C : Type 0} → ReplaceRefusal T C → T
replace_refusal_item (Missing item) = item
replace_refusal_item (Taken item at) = item
replace_refusal_item (Refused item) = item
