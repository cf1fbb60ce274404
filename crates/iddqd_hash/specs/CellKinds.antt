-- The pair in a cell, of each kind of cell.
use Rattle.std.specs.Prelude.{◌+◌, ◌*◌, ◌^◌, ℕ, Bool, true, false, Option, Some, None}
use Rattle.std.specs.Option.{option_map}
use Rattle.iddqd_hash.specs.declared.open_table.cell_kinds.IndexCell.{IndexCell}
use Rattle.iddqd_hash.specs.declared.open_table.cell_kinds.OptionCell.{OptionCell}

-- in an `OptionCell`: the option says whether there is one, so the tag isn't needed
abbrev pub pair_in : {T : Type 0} → OptionCell T → Option (ℕ × T)
pair_in cell = option_map (λ value. (cell.hash, value)) cell.value

-- in an `IndexCell`: the hash and the index, if the tag says that it has a pair
abbrev pub index_slot : Bool → IndexCell → Option (ℕ × ℕ)
index_slot true cell = Some (cell.low + cell.high * 2 ^ 32, cell.index)
index_slot false cell = None
