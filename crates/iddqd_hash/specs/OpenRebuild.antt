-- How a table with open addressing is rebuilt in the cells that it has.
use Rattle.std.specs.Prelude.{◌≡◌, ◌+◌, ◌%◌, ◌<◌, ◌≤◌, ◌⊎◌, ◌==◌, ℕ, Bool, List, Option, Some, None, length, slice_index}
use Rattle.iddqd_hash.specs.OpenTable.{tag_of, slot_at}

-- the tag of a cell whose pair has yet to be placed
abbrev pub pending : ℕ
pending = 2

-- whether this is the tag of a cell whose pair has yet to be placed
abbrev pub is_pending : ℕ → Bool
is_pending tag = tag == pending

-- a probe for a hash comes to a place, and only full cells come before it
pub record IsPastFull (tags : List ℕ) (hash place : ℕ) : Type 0 where
  pub steps : ℕ
  pub is_there : (hash + steps) % length tags ≡ place
  pub full : (k : ℕ) → k < steps → 128 ≤ slice_index tags ((hash + k) % length tags)

-- each cell that is pending was pending before
abbrev pub NoNewPending : List ℕ → List ℕ → Type 0
NoNewPending old new = (k : ℕ) → slice_index new k ≡ pending → slice_index old k ≡ pending

module _ {T : Type 0} where
  -- a tag suits a slot during a rebuild: 0 if there is no pair, otherwise pending or the tag of the pair's hash
  abbrev pub SuitsOrPending : ℕ → Option (ℕ × T) → Type 0
  SuitsOrPending tag None = tag ≡ 0
  SuitsOrPending tag (Some pair) = (tag ≡ pending) ⊎ (tag ≡ tag_of pair.0)

  -- each tag suits its slot, and a probe for a placed pair comes to it past placed pairs alone
  pub record IsPartlyPlaced (tags : List ℕ) (slots : List (Option (ℕ × T))) : Type 0 where
    pub same_length : length slots ≡ length tags
    pub suited : (place : ℕ) → place < length tags → SuitsOrPending (slice_index tags place) (slot_at slots place)
    pub placed :
        (place : ℕ) (pair : ℕ × T)
        → slot_at slots place ≡ Some pair
        → 128 ≤ slice_index tags place
        → IsPastFull tags pair.0 place
