-- The state of a walk over the full cells of a table with open addressing.
use Rattle.std.specs.Prelude.{◌≡◌, ◌+◌, ◌-◌, ◌*◌, ◌^◌, ◌<◌, ◌≤◌, ◌⊎◌, ℕ, Bool, List, Option, length, map, take, drop, slice_index}
use Rattle.std.specs.Simd.Lanes.{mask_l}
use lib.Dec.{leb}
use Rattle.iddqd_hash.specs.OpenTable.{IsPowerOfTwo, IsProbed, pairs}

-- whether this is the tag of a full cell
abbrev pub is_full : ℕ → Bool
is_full tag = leb 128 tag

-- a bit for each place from `at` up to `end`: whether it is full; the lowest bit is for the first place
abbrev pub full_mask : List ℕ → ℕ → ℕ → ℕ
full_mask tags at end = mask_l (map is_full (take (end - at) (drop at tags)))

-- the number is a multiple of 16
abbrev pub IsMultipleOf16 : ℕ → Type 0
IsMultipleOf16 count = (n : ℕ) × (count ≡ 16 * n)

-- some place from `at` on is full
abbrev pub SomeFull : List ℕ → ℕ → Type 0
SomeFull tags at = (k : ℕ) × (at ≤ k) × (k < length tags) × (128 ≤ slice_index tags k)

-- A walk goes on at the place `at`. The mask has a bit for each of the sixteen places before `end`, the lowest for the
-- first of them: whether the place is full and not before `at`.
pub record IsAhead (tags : List ℕ) (at end mask : ℕ) : Type 0 where
  pub before_end : at ≤ end
  pub near : end ≤ at + 16
  pub inside : end ≤ length tags
  pub in_sixteens : IsMultipleOf16 end
  pub masked : mask ≡ 2 ^ (at + 16 - end) * full_mask tags at end

-- a walk over a table goes on at the place `at`, and `left` pairs are at that place or after it
pub record IsWalk {T : Type 0} (tags : List ℕ) (slots : List (Option (ℕ × T))) (at end mask left : ℕ) : Type 0 where
  pub count : (length tags ≡ 0) ⊎ IsPowerOfTwo (length tags)
  pub probed : IsProbed tags slots
  pub ahead : IsAhead tags at end mask
  pub counted : left ≡ length (pairs (drop at slots))
