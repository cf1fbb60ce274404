-- What a contract sees of a table of values under hashes.
use Rattle.std.specs.Prelude.{◌≡◌, ◌==◌, ◌+◌, ◌≤◌, ℕ, List, Option, Some, length, map, filter, refl, slice_get, ◌∷◌}
use Rattle.std.specs.Coded.{Coded, code_by, coded×, coded_ℕ, coded_list, coded_option}
use Rattle.std.specs.List.{AllZip, filter_map}
use Rattle.std.specs.List.Sorted.{IsPermutation}
use Rattle.std.specs.Option.{option_flatten, option_map}

-- Cells, each of which may have a pair of a hash and a value; how many inserts need no memory; and how many cells the
-- memory has. Callers read it by the functions below.
pub record Table (T : Type 0) : Type 0 where
  pub cells : List (Option (ℕ × T))
  pub spare : ℕ
  pub memory : ℕ

-- a table is stored as the tuple of its fields
abbrev pub table_code : {T : Type 0} → Coded T → Coded (Table T)
table_code {T} code =
    code_by
    (List (Option (ℕ × T)) × (ℕ × ℕ))
    (coded× (coded_list (coded_option (coded× coded_ℕ code))) (coded× coded_ℕ coded_ℕ))
    (λ t. (t.cells, (t.spare, t.memory)))
    (λ p. record { cells = p.0; spare = p.1.0; memory = p.1.1 })
    (λ _. refl)

module _ {T : Type 0} where
  -- the table that has each of these pairs in a cell, room for `spare` more, and memory for `held` cells
  unfoldable pub listed : List (ℕ × T) → ℕ → ℕ → Table T
  listed es spare held = record { cells = map Some es; spare = spare; memory = held }

  -- the pairs in the cells, as a bag: clauses compare it by `IsPermutation`
  unfoldable pub entries : Table T → List (ℕ × T)
  entries t = filter_map (λ pair. pair) t.cells

  -- the pair in a cell, if it has one
  unfoldable pub pair_at : Table T → ℕ → Option (ℕ × T)
  pair_at t cell = option_flatten (slice_get t.cells cell)

  -- the value of a pair, if there is one
  abbrev pub value_of : Option (ℕ × T) → Option T
  value_of pair = option_map (λ p. p.1) pair

  -- how many inserts need no memory
  unfoldable pub room : Table T → ℕ
  room t = t.spare

  -- how many cells the memory has
  unfoldable pub memory : Table T → ℕ
  memory t = t.memory

  -- how many pairs the table can hold without more memory
  abbrev pub capacity : Table T → ℕ
  capacity t = length (entries t) + room t

  -- the values of the pairs
  abbrev pub values : List (ℕ × T) → List T
  values es = map (λ e. e.1) es

  -- the values under a hash
  abbrev pub under : ℕ → List (ℕ × T) → List T
  under hash es = values (filter (λ e. e.0 == hash) es)

  -- `gives v w` says that w may replace v. The value of each old pair was replaced and its hash kept, and the new pairs
  -- are the results in some order.
  pub record Rewrites (gives : T → T → Type 0) (old new : List (ℕ × T)) : Type 0 where
    pub rewritten : List (ℕ × T)
    pub each : AllZip (λ e w. (w.0 ≡ e.0) × gives e.1 w.1) old rewritten
    pub moved : IsPermutation rewritten new

  -- this pair, which has this value, was removed from a table, and no other
  pub record RemovesPair (old : Table T) (pair : Option (ℕ × T)) (value : T) (new : Table T) : Type 0 where
    pub hash : ℕ
    pub is_pair : pair ≡ Some (hash, value)
    pub others_stay : IsPermutation (entries old) ((hash, value) ∷ entries new)

  -- a table that takes no memory
  pub record HasNoMemory (t : Table T) : Type 0 where
    pub no_room : room t ≡ 0
    pub no_cell : memory t ≡ 0

  -- memory and capacity are as before, and the room is no less
  pub record KeepsMemory (old new : Table T) : Type 0 where
    pub room_stays : room old ≤ room new
    pub same_capacity : capacity new ≡ capacity old
    pub same_memory : memory new ≡ memory old

  -- memory and capacity are as before, and the room is less by one
  pub record UsesRoom (old new : Table T) : Type 0 where
    pub one_less : room old ≡ room new + 1
    pub same_capacity : capacity new ≡ capacity old
    pub same_memory : memory new ≡ memory old
