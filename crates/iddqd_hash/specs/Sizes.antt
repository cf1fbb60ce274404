-- How a table reserves memory, and gives it back.
use Rattle.std.specs.Prelude.{◌≡◌, ◌+◌, ◌-◌, ◌*◌, ◌<◌, ◌≤◌, ℕ, min, max, Result, IsOk, IfOk, OnOk, OnErr, length}
use Rattle.iddqd_hash.specs.HashTable.{Table, entries, room, memory, HasNoMemory}

-- The most cells that a table takes for this number of pairs, or keeps after a shrink: none for no pair, sixteen for
-- one, and for more pairs three for each and sixteen besides.
abbrev pub most_cells : ℕ → ℕ
most_cells pairs = min (16 * pairs) (3 * pairs + 16)

module _ {T : Type 0} where
  -- A new table has room for `pairs` pairs, and no more memory than these need. For 0 pairs it takes no memory, and
  -- can't fail.
  pub record TakesRoom {E : Type 0} (pairs : ℕ) (result : Result (Table T) E) : Type 0 where
    pub roomy : IfOk result (λ t. pairs ≤ room t)
    pub few : IfOk result (λ t. memory t ≤ most_cells pairs)
    pub succeeds : pairs ≡ 0 → IsOk result
    pub no_memory : pairs ≡ 0 → IfOk result HasNoMemory

  -- Room was made for `additional` more pairs, in no more memory than all pairs need then, or else nothing changed. If
  -- there was room before, it can't fail, and nothing changed.
  pub record Reserves {A E : Type 0} (additional : ℕ) (old : Table T) (result : Result A E) (new : Table T)
      : Type 0 where
    pub reserved : OnOk result (additional ≤ room new)
    pub refused : OnErr result (new ≡ old)
    pub had_room : additional ≤ room old → IsOk result × (new ≡ old)
    pub room_stays : room old ≤ room new
    pub memory_stays : memory old ≤ memory new
    pub few : memory new ≤ max (memory old) (most_cells (length (entries old) + additional))

  -- A table of `len` pairs gave back memory that is needed neither for these nor for `least` pairs. Room for `least`
  -- pairs stays, if it was there. After a failure the table has more memory than is needed. If none is needed, it can't
  -- fail.
  pub record Shrinks {A E : Type 0} (least len : ℕ) (old : Table T) (result : Result A E) (new : Table T) : Type 0 where
    pub never_more : memory new ≤ memory old
    pub room_stays : min (room old) (least - len) ≤ room new
    pub shrunk : OnOk result (memory new ≤ most_cells (max least len))
    pub refused : OnErr result (max least len < memory new)
    pub succeeds : max least len ≡ 0 → IsOk result
