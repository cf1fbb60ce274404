-- What tables by two keys answer together.
use Rattle.std.proofs.Common.{◌||◌, inl, inr, ℕ, Bool, Result, Ok, Err, refl}
use Rattle.std.specs.Result.{result_err}
use Rattle.iddqd.specs.Store.{Store}
use Rattle.iddqd_by_hash.specs.declared.hashed_move.Move.{Move}
use Rattle.iddqd_map.specs.KeyIndex.{FindsPosition, FindsMove}
use Rattle.iddqd_map.specs.OneKey.{IsReported, IsTaken}
use Rattle.iddqd_map.specs.PairLaws.{HasNoHit-either, HasNoOther-either, moves_either}
use Rattle.iddqd_map.specs.Several.{either_key, both_keys}
use Rattle.iddqd_map.specs.TwoKeys.{AreReported, AreTaken, two_clashes, two_moves}

module _ {T : Type 0} (first second : T → T → Bool) (s : Store T) where
  -- two look-ups of an item's keys
  pub FindsPosition-two :
      (item : T) (one other : Result (Unit {0}) ℕ)
      → FindsPosition first (λ t x position. Unit {0}) (IsReported first) s item one
      → FindsPosition second (λ t x position. Unit {0}) (IsReported second) s item other
      → FindsPosition (either_key first second) (λ t x position. Unit {0}) (AreReported first second) s item
      (two_clashes (result_err one) (result_err other))
  FindsPosition-two item (Ok x) (Ok y) a b = (HasNoHit-either first second s item a.0 b.0, tt)
  FindsPosition-two item (Ok x) (Err at) a b = record { first = a.0; second = b; some = inr refl }
  FindsPosition-two item (Err at) (Ok y) a b = record { first = a; second = b.0; some = inl refl }
  FindsPosition-two item (Err at) (Err too) a b = record { first = a; second = b; some = inl refl }

  -- two plans of a move
  pub FindsMove-two :
      (is_first is_second : Store T → ℕ → T → Move → Type 0) (moves : Move → Bool) (ix : ℕ) (item : T)
      (one other : Result Move ℕ)
      → FindsMove first first is_first moves (IsTaken first) s ix item one
      → FindsMove second second is_second moves (IsTaken second) s ix item other
      → FindsMove (either_key first second) (both_keys first second)
      (λ t at x plan. is_first t at x plan.0 × is_second t at x plan.1) (λ plan. moves plan.0 || moves plan.1)
      (AreTaken first second) s ix item (two_moves one other)
  FindsMove-two is_first is_second moves ix item (Ok p) (Ok q) a b = (
    (a.0, b.0),
    HasNoOther-either first second s item ix a.1 b.1,
    λ was live. moves_either _ _ _ _ (a.2 was live) (b.2 was live),
  )
  FindsMove-two is_first is_second moves ix item (Ok p) (Err at) a b =
      record { first = a.1; second = b; some = inr refl }
  FindsMove-two is_first is_second moves ix item (Err at) (Ok q) a b =
      record { first = a; second = b.1; some = inl refl }
  FindsMove-two is_first is_second moves ix item (Err at) (Err too) a b =
      record { first = a; second = b; some = inl refl }
