-- What tables by three keys answer together.
use Rattle.std.proofs.Common.{◌||◌, inl, inr, ℕ, Bool, Option, Some, None, Result, Ok, Err, refl}
use Rattle.std.specs.Result.{result_err}
use Rattle.iddqd.specs.Store.{Store}
use Rattle.iddqd_by_hash.specs.declared.hashed_move.Move.{Move}
use Rattle.iddqd_map.specs.KeyIndex.{FindsPosition, FindsMove}
use Rattle.iddqd_map.specs.OneKey.{IsReported, IsTaken}
use Rattle.iddqd_map.specs.PairConflict.{Reports, ReportsOther}
use Rattle.iddqd_map.specs.PairLaws.{HasNoHit-either, HasNoOther-either, moves_either}
use Rattle.iddqd_map.specs.Several.{either_key}
use Rattle.iddqd_map.specs.ThreeKeys.{any_key, all_keys, AreReported, AreTaken, three_clashes, three_moves}

module _ {T : Type 0} (s : Store T) (item : T) (alike : T → T → Bool) where
  reported_key :
      (found : Result (Unit {0}) ℕ)
      → FindsPosition alike (λ t x position. Unit {0}) (IsReported alike) s item found
      → Reports alike (IsReported alike) s item (result_err found)
  reported_key (Ok x) finds = finds.0
  reported_key (Err at) finds = finds

  taken_key :
      (is : Store T → ℕ → T → Move → Type 0) (moves : Move → Bool) (ix : ℕ) (found : Result Move ℕ)
      → FindsMove alike alike is moves (IsTaken alike) s ix item found
      → ReportsOther alike (IsTaken alike) s ix item (result_err found)
  taken_key is moves ix (Ok plan) finds = finds.1
  taken_key is moves ix (Err at) finds = finds

module _ {T : Type 0} (first second third : T → T → Bool) (s : Store T) where
  spot_three :
      (item : T) (one two three : Option ℕ)
      → Reports first (IsReported first) s item one
      → Reports second (IsReported second) s item two
      → Reports third (IsReported third) s item three
      → FindsPosition (any_key first second third) (λ t x position. Unit {0}) (AreReported first second third) s item
      (three_clashes one two three)
  spot_three item None None None a b c =
      (HasNoHit-either first (either_key second third) s item a (HasNoHit-either second third s item b c), tt)
  spot_three item None None (Some at) a b c = record { first = a; second = b; third = c; some = inr (inr refl) }
  spot_three item None (Some at) three a b c = record { first = a; second = b; third = c; some = inr (inl refl) }
  spot_three item (Some at) two three a b c = record { first = a; second = b; third = c; some = inl refl }

  -- three look-ups of an item's keys
  pub FindsPosition-three :
      (item : T) (one two three : Result (Unit {0}) ℕ)
      → FindsPosition first (λ t x position. Unit {0}) (IsReported first) s item one
      → FindsPosition second (λ t x position. Unit {0}) (IsReported second) s item two
      → FindsPosition third (λ t x position. Unit {0}) (IsReported third) s item three
      → FindsPosition (any_key first second third) (λ t x position. Unit {0}) (AreReported first second third) s item
      (three_clashes (result_err one) (result_err two) (result_err three))
  FindsPosition-three item one two three a b c =
      spot_three item (result_err one) (result_err two) (result_err three) (reported_key s item first one a)
      (reported_key s item second two b) (reported_key s item third three c)

  -- three plans of a move
  pub FindsMove-three :
      (is_first is_second is_third : Store T → ℕ → T → Move → Type 0) (moves : Move → Bool) (ix : ℕ) (item : T)
      (one two three : Result Move ℕ)
      → FindsMove first first is_first moves (IsTaken first) s ix item one
      → FindsMove second second is_second moves (IsTaken second) s ix item two
      → FindsMove third third is_third moves (IsTaken third) s ix item three
      → FindsMove (any_key first second third) (all_keys first second third)
      (λ t at x plan. is_first t at x plan.0 × (is_second t at x plan.1.0 × is_third t at x plan.1.1))
      (λ plan. moves plan.0 || (moves plan.1.0 || moves plan.1.1))
      (AreTaken first second third) s ix item (three_moves one two three)
  FindsMove-three is_first is_second is_third moves ix item (Ok p) (Ok q) (Ok r) a b c = (
    (a.0, (b.0, c.0)),
    HasNoOther-either first (either_key second third) s item ix a.1 (HasNoOther-either second third s item ix b.1 c.1),
    λ was live. moves_either _ _ _ _ (a.2 was live) (moves_either _ _ _ _ (b.2 was live) (c.2 was live)),
  )
  FindsMove-three is_first is_second is_third moves ix item (Ok p) (Ok q) (Err at) a b c =
      record { first = a.1; second = b.1; third = c; some = inr (inr refl) }
  FindsMove-three is_first is_second is_third moves ix item (Ok p) (Err at) three a b c =
      record {
        first = a.1;
        second = b;
        third = taken_key s item third is_third moves ix three c;
        some = inr (inl refl);
      }
  FindsMove-three is_first is_second is_third moves ix item (Err at) two three a b c =
      record {
        first = a;
        second = taken_key s item second is_second moves ix two b;
        third = taken_key s item third is_third moves ix three c;
        some = inl refl;
      }
