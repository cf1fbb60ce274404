-- What a map whose items have two keys reports of other items, and what its insert that overwrites may return.
use Rattle.std.specs.Prelude.{◌+◌, ℕ, Bool, false, List, Option, Some, None, Result, Ok, Err}
use Rattle.iddqd.specs.Store.{Store}
use Rattle.iddqd_by_hash.specs.declared.hashed_move.Move.{Move}
use Rattle.iddqd_hash.specs.Sizes.{most_cells}
use Rattle.iddqd_map.specs.Calls.{Overwrites}
use Rattle.iddqd_map.specs.Map.{MapState}
use Rattle.iddqd_map.specs.OneKey.{IsReported, IsTaken}
use Rattle.iddqd_map.specs.PairConflict.{ReportBoth, ReportBothOther}
use Rattle.iddqd_map.specs.Several.{either_key}
use Rattle.iddqd_map.specs.declared.bi_hash_map.clash.BiClash.{BiClash}
use Rattle.iddqd_map.specs.declared.refusal.OverwriteRefusal.{OverwriteRefusal}

-- the answers of two look-ups, one by each key: `Ok` if neither found an item
abbrev pub two_clashes : Option ℕ → Option ℕ → Result (Unit {0}) BiClash
two_clashes None None = Ok tt
two_clashes None (Some other) = Err record { key1 = None; key2 = Some other }
two_clashes (Some one) other = Err record { key1 = Some one; key2 = other }

-- the plans of two tables, one by each key: how the index moves in both, or the other items that have a key
abbrev pub two_moves : Result Move ℕ → Result Move ℕ → Result (Move × Move) BiClash
two_moves (Ok first) (Ok second) = Ok (first, second)
two_moves (Ok first) (Err other) = Err record { key1 = None; key2 = Some other }
two_moves (Err one) (Ok second) = Err record { key1 = Some one; key2 = None }
two_moves (Err one) (Err other) = Err record { key1 = Some one; key2 = Some other }

-- `first x y` says that the items share their first key, `second x y` that they share their second
module _ {T : Type 0} (first second : T → T → Bool) where
  -- for each key the index of the item that has this item's key, if one has; at least one item has one
  abbrev pub AreReported : Store T → T → BiClash → Type 0
  AreReported s item at = ReportBoth first second (IsReported first) (IsReported second) s item at.key1 at.key2

  -- the same for the items other than the one at the index
  abbrev pub AreTaken : Store T → ℕ → T → BiClash → Type 0
  AreTaken s ix item at = ReportBothOther first second (IsTaken first) (IsTaken second) s ix item at.key1 at.key2

  -- what an insert that overwrites may return and leave where both keys go by their hashes: after a removal it needs no
  -- memory
  abbrev pub OverwritesTwo :
      MapState T → T → Result (ℕ × List (Option (ℕ × T))) (OverwriteRefusal T) → MapState T → Type 0
  OverwritesTwo = Overwrites (either_key first second) (λ n. most_cells n + most_cells n) false 2
