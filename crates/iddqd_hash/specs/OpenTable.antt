-- What the cells of a table with open addressing keep, so that a probe finds each pair.
use Rattle.std.specs.Prelude.{◌≡◌, ◌≢◌, ◌==◌, map, ◌+◌, ◌-◌, ◌*◌, ◌/◌, ◌%◌, ◌^◌, ◌<◌, ◌≤◌, ◌⊎◌, ℕ, Bool, false, ltb, not, List, [], ◌∷◌, Option, Some, None, length, count_by, slice_index, slice_index_or}
use mathlib.Core.Bool.{◌||◌}
use Rattle.std.specs.List.{filter_map}
use Rattle.std.specs.Option.{option_map}
use Rattle.std.specs.Vec.{vec_capacity, vec_len}
use Rattle.std.specs.Global.{Vec}
use Rattle.iddqd_hash.specs.Asks.{FindsPlace}
use Rattle.iddqd_hash.specs.HashTable.{Table, under}

-- the tag of a full cell: 128 and the top seven bits of its hash
abbrev pub tag_of : ℕ → ℕ
tag_of hash = hash / 2 ^ 57 + 128

-- how many of `count` cells may be full or marked: seven of eight
abbrev pub limit_of : ℕ → ℕ
limit_of count = count / 8 * 7

-- how many pairs `count` cells may have: thirteen of sixteen
abbrev pub usable_of : ℕ → ℕ
usable_of count = count / 16 * 13

-- a power of two that is at least 16
abbrev pub IsPowerOfTwo : ℕ → Type 0
IsPowerOfTwo count = (k : ℕ) × (count ≡ 2 ^ (k + 4))

-- whether a cell with this tag is full or marked
abbrev pub is_used : ℕ → Bool
is_used tag = not (tag == 0)

-- some cell is empty
abbrev pub HasEmpty : List ℕ → Type 0
HasEmpty tags = (k : ℕ) × (k < length tags) × (slice_index tags k ≡ 0)

-- No cell is empty among the first `steps` that a probe comes to from a place on. After the last place comes the first.
abbrev pub NoneEmpty : List ℕ → ℕ → ℕ → Type 0
NoneEmpty tags from steps = (k : ℕ) → k < steps → 0 < slice_index tags ((from + k) % length tags)

-- a probe for a hash comes to a place, and to no empty cell before it
pub record IsReached (tags : List ℕ) (hash place : ℕ) : Type 0 where
  pub steps : ℕ
  pub is_there : (hash + steps) % length tags ≡ place
  pub passed : NoneEmpty tags hash steps

-- whether a probe for a tag stops at a cell: if it has the tag or is empty
abbrev pub is_stop : ℕ → ℕ → Bool
is_stop tag here = (here == tag) || (here == 0)

-- a probe for the tag stops at none of the `run` places from `at` on
abbrev pub NoStops : ℕ → List ℕ → ℕ → ℕ → Type 0
NoStops tag tags at run = (k : ℕ) → at ≤ k → k < at + run → is_stop tag (slice_index tags k) ≡ false

-- each of the `run` places from `at` on is full
abbrev pub AllFull : List ℕ → ℕ → ℕ → Type 0
AllFull tags at run = (k : ℕ) → at ≤ k → k < at + run → 128 ≤ slice_index tags k

-- none of the `run` places from `at` on is full
abbrev pub NoneFull : List ℕ → ℕ → ℕ → Type 0
NoneFull tags at run = (k : ℕ) → at ≤ k → k < at + run → slice_index tags k < 128

-- a probe for the tag comes from one place to another, and stops at none in between
pub record Skips (tags : List ℕ) (tag from at : ℕ) : Type 0 where
  pub steps : ℕ
  pub is_there : (from + steps) % length tags ≡ at
  pub others : (k : ℕ) → k < steps → is_stop tag (slice_index tags ((from + k) % length tags)) ≡ false

-- the vector has memory for its items and no more
abbrev pub IsExact : {X : Type 0} → Vec X → Type 0
IsExact v = vec_capacity v ≡ vec_len v

-- a place that isn't full
pub record IsFree (tags : List ℕ) (place : ℕ) : Type 0 where
  pub within : place < length tags
  pub free : slice_index tags place < 128

-- whether the cell with this tag has a pair: it is full, or pending during a rebuild
abbrev pub has_pair : ℕ → Bool
has_pair tag = ltb 1 tag

-- `slot b c` is the pair in the cell c; b is whether its tag says that it has one
module _ {C T : Type 0} (slot : Bool → C → Option (ℕ × T)) where
  -- the slots of a table: the pair in each cell, if its tag says that it has one
  abbrev pub slots_of : List ℕ → List C → List (Option (ℕ × T))
  slots_of tags [] = []
  slots_of [] (cell ∷ cells) = slot false cell ∷ slots_of [] cells
  slots_of (tag ∷ tags) (cell ∷ cells) = slot (has_pair tag) cell ∷ slots_of tags cells

module _ {T : Type 0} where
  -- the slot at a place; past the last place there is no pair
  abbrev pub slot_at : List (Option (ℕ × T)) → ℕ → Option (ℕ × T)
  slot_at slots place = slice_index_or slots place None

  -- the pairs in slots
  abbrev pub pairs : List (Option (ℕ × T)) → List (ℕ × T)
  pairs slots = filter_map (λ slot. slot) slots

  -- the hash of the pair in each slot
  abbrev pub hashes_of : List (Option (ℕ × T)) → List (Option ℕ)
  hashes_of slots = map (λ slot. option_map (λ pair. pair.0) slot) slots

  -- a tag suits a slot: 0 or 1 if there is no pair, otherwise the tag of the pair's hash
  abbrev pub Suits : ℕ → Option (ℕ × T) → Type 0
  Suits tag None = tag ≤ 1
  Suits tag (Some pair) = tag ≡ tag_of pair.0

  -- the place of the pair that a look-up hit, by a closure in the state f, if it hit one
  abbrev pub FindsSlot :
      {F : Type 0} → (F → T → Bool → F → Type 0) → F → ℕ → List (Option (ℕ × T)) → Option ℕ → Type 0
  FindsSlot ask f hash slots place = FindsPlace ask f hash (under hash (pairs slots)) (slot_at slots) place

  -- each tag suits its slot, and a probe for the hash of a pair comes to the pair before any empty cell
  pub record IsProbed (tags : List ℕ) (slots : List (Option (ℕ × T))) : Type 0 where
    pub same_length : length slots ≡ length tags
    pub suited : (place : ℕ) → place < length tags → Suits (slice_index tags place) (slot_at slots place)
    pub reached : (place : ℕ) (pair : ℕ × T) → slot_at slots place ≡ Some pair → IsReached tags pair.0 place

  -- a probe comes from one place to another past full and marked cells, none of which has a pair under the hash
  pub record PassesBy (tags : List ℕ) (slots : List (Option (ℕ × T))) (hash from at : ℕ) : Type 0 where
    pub walk : IsReached tags from at
    pub others : (k : ℕ) (value : T) → k < walk.steps → slot_at slots ((from + k) % length tags) ≢ Some (hash, value)

  -- what a probe from a place on comes to first: a pair under the hash, or an empty cell
  abbrev pub FindsNext : List ℕ → List (Option (ℕ × T)) → ℕ → ℕ → Option ℕ → Type 0
  FindsNext tags slots hash from (Some place) =
      PassesBy tags slots hash from place × ((value : T) × (slot_at slots place ≡ Some (hash, value)))
  FindsNext tags slots hash from None =
      (place : ℕ) × PassesBy tags slots hash from place × (slice_index tags place ≡ 0)

  -- The invariant of a table with open addressing: `len` is the number of pairs, and `used` that of full and marked
  -- cells. If there are cells, at least one of eight is empty, and at most thirteen of sixteen have a pair.
  pub record IsSound (tags : List ℕ) (slots : List (Option (ℕ × T))) (len used : ℕ) : Type 0 where
    pub count : (length tags ≡ 0) ⊎ IsPowerOfTwo (length tags)
    pub probed : IsProbed tags slots
    pub counted : len ≡ length (pairs slots)
    pub fits : len ≤ usable_of (length tags)
    pub marked : used ≡ count_by is_used tags
    pub limited : used ≤ limit_of (length tags)

  -- the table that contracts see, which has these slots; they don't see marks
  unfoldable pub table_of : List (Option (ℕ × T)) → Table T
  table_of slots =
      record { cells = slots; spare = usable_of (length slots) - length (pairs slots); memory = length slots }

-- The invariant of a table with open addressing, of its vectors. Neither has memory for more than its items, so a
-- contract that counts cells counts all of the memory.
pub record IsSoundTable {C T : Type 0} (slot : Bool → C → Option (ℕ × T)) (tags : Vec ℕ) (cells : Vec C) (len used : ℕ)
    : Type 0 where
  pub sound : IsSound tags.items (slots_of slot tags.items cells.items) len used
  pub exact_tags : IsExact tags
  pub exact_cells : IsExact cells
