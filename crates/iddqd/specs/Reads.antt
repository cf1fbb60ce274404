-- What reading more than one index of a store gives.
use Rattle.std.specs.Prelude.{◌≡◌, ◌≢◌, ◌<◌, ◌≤◌, ◌↔◌, ℕ, Bool, List, length, slice_index, slice_index_or, false, IsTrue, Option, Some, None, IsSome}
use Rattle.iddqd.specs.Store.{Store, get}

module _ {T : Type 0} where
  -- the least live index not below `from`, if there is one
  abbrev pub IsNextLive : Store T → ℕ → Option ℕ → Type 0
  IsNextLive s from None = (other : ℕ) → from ≤ other → get s other ≡ None
  IsNextLive s from (Some ix) =
      (from ≤ ix) × IsSome (get s ix) × ((other : ℕ) → from ≤ other → other < ix → get s other ≡ None)

  -- the index at a place of a list is live, and no earlier place has the same one
  abbrev pub IsFirstLive : Store T → List ℕ → ℕ → Type 0
  IsFirstLive s ixs at =
      IsSome (get s (slice_index ixs at)) × ((before : ℕ) → before < at → slice_index ixs before ≢ slice_index ixs at)

  -- for each place of the list, whether its index is live and no earlier place has the same one
  pub record AreFirstLive (s : Store T) (ixs : List ℕ) (answers : List Bool) : Type 0 where
    pub one_each : length answers ≡ length ixs
    pub at : (place : ℕ) → place < length ixs → IsTrue (slice_index_or answers place false) ↔ IsFirstLive s ixs place
