-- How the items that share a key with a new one leave a map.
use Rattle.std.specs.Prelude.{◌≡◌, ◌↔◌, ◌≤◌, ℕ, List, length, map, Option}
use Rattle.std.specs.List.{Contains, FoldsTo}
use Rattle.iddqd.specs.Store.{Store}
use Rattle.iddqd_keys.specs.KeyWalk.{index_with_item, pairs_at}
use Rattle.iddqd_keys.specs.Removals.{IsIncreasing, padded, removed_all}

-- the items at the indexes that were reported, at most `places`, were removed by rising index, and are in the places,
-- each with its index
pub record TakesAll
    {T : Type 0} (reported : ℕ → Type 0) (places : ℕ) (old : Store T) (back : List (Option (ℕ × T))) (new : Store T)
    : Type 0 where
  pub indexes : List ℕ
  pub each : (ix : ℕ) → Contains indexes ix ↔ reported ix
  pub rising : IsIncreasing indexes
  pub at_most : length indexes ≤ places
  pub items : back ≡ padded places (map (index_with_item old) indexes)
  pub left : new ≡ removed_all old indexes

-- The items at the indexes that were reported were removed by rising index, and the closure was called with each of
-- them and its index in this order. `give p x q` says that a call with this index and item in the state p may leave the
-- state q.
pub record GivesReported
    {G T : Type 0} (reported : ℕ → Type 0) (give : G → ℕ × T → G → Type 0) (old : Store T) (gone : G) (new : Store T)
    (last : G)
    : Type 0 where
  pub indexes : List ℕ
  pub each : (ix : ℕ) → Contains indexes ix ↔ reported ix
  pub rising : IsIncreasing indexes
  pub displaced : List (ℕ × T)
  pub items : displaced ≡ pairs_at old indexes
  pub given : FoldsTo give gone displaced last
  pub left : new ≡ removed_all old indexes
