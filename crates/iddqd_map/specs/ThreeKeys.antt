-- What a map whose items have three keys reports of other items, and what its insert that overwrites may return.
use Rattle.std.specs.Prelude.{◌⊎◌, ◌+◌, ℕ, Bool, false, List, Option, Some, None, Result, Ok, Err, IsSome}
use Rattle.std.specs.Result.{result_err}
use Rattle.iddqd.specs.Store.{Store}
use Rattle.iddqd_by_hash.specs.declared.hashed_move.Move.{Move}
use Rattle.iddqd_hash.specs.Sizes.{most_cells}
use Rattle.iddqd_map.specs.Calls.{Overwrites}
use Rattle.iddqd_map.specs.Map.{MapState}
use Rattle.iddqd_map.specs.OneKey.{IsReported, IsTaken}
use Rattle.iddqd_map.specs.PairConflict.{Reports, ReportsOther}
use Rattle.iddqd_map.specs.Several.{either_key, both_keys}
use Rattle.iddqd_map.specs.declared.tri_hash_map.clash.TriClash.{TriClash}
use Rattle.iddqd_map.specs.declared.refusal.OverwriteRefusal.{OverwriteRefusal}

-- one of the keys was found
abbrev pub ReportsSome : TriClash → Type 0
ReportsSome at = IsSome at.key1 ⊎ (IsSome at.key2 ⊎ IsSome at.key3)

-- the answers of three look-ups, one by each key: `Ok` if none found an item
abbrev pub three_clashes : Option ℕ → Option ℕ → Option ℕ → Result (Unit {0}) TriClash
three_clashes None None None = Ok tt
three_clashes None None (Some three) = Err record { key1 = None; key2 = None; key3 = Some three }
three_clashes None (Some two) three = Err record { key1 = None; key2 = Some two; key3 = three }
three_clashes (Some one) two three = Err record { key1 = Some one; key2 = two; key3 = three }

-- the plans of three tables, one by each key: how the index moves in each, or the other items that have a key
abbrev pub three_moves : Result Move ℕ → Result Move ℕ → Result Move ℕ → Result (Move × (Move × Move)) TriClash
three_moves (Ok first) (Ok second) (Ok third) = Ok (first, (second, third))
three_moves (Ok first) (Ok second) (Err three) = Err record { key1 = None; key2 = None; key3 = Some three }
three_moves (Ok first) (Err two) third = Err record { key1 = None; key2 = Some two; key3 = result_err third }
three_moves (Err one) second third =
    Err record { key1 = Some one; key2 = result_err second; key3 = result_err third }

-- for each key the index of the item that has this item's key, if one has; at least one item has one
pub record AreReported
    {T : Type 0} (alike1 alike2 alike3 : T → T → Bool) (s : Store T) (item : T) (at : TriClash)
    : Type 0 where
  pub first : Reports alike1 (IsReported alike1) s item at.key1
  pub second : Reports alike2 (IsReported alike2) s item at.key2
  pub third : Reports alike3 (IsReported alike3) s item at.key3
  pub some : ReportsSome at

-- the same for the items other than the one at the index
pub record AreTaken
    {T : Type 0} (alike1 alike2 alike3 : T → T → Bool) (s : Store T) (ix : ℕ) (item : T) (at : TriClash)
    : Type 0 where
  pub first : ReportsOther alike1 (IsTaken alike1) s ix item at.key1
  pub second : ReportsOther alike2 (IsTaken alike2) s ix item at.key2
  pub third : ReportsOther alike3 (IsTaken alike3) s ix item at.key3
  pub some : ReportsSome at

-- `first x y` says that the items share their first key, `second x y` that they share their second, and `third x y`
-- that they share their third
module _ {T : Type 0} (first second third : T → T → Bool) where
  -- the items share a key
  abbrev pub any_key : T → T → Bool
  any_key = either_key first (either_key second third)

  -- the items share all keys
  abbrev pub all_keys : T → T → Bool
  all_keys = both_keys first (both_keys second third)

  -- what an insert that overwrites may return and leave where all three keys go by their hashes: after a removal it
  -- needs no memory
  abbrev pub OverwritesThree :
      MapState T → T → Result (ℕ × List (Option (ℕ × T))) (OverwriteRefusal T) → MapState T → Type 0
  OverwritesThree = Overwrites any_key (λ n. most_cells n + (most_cells n + most_cells n)) false 3
