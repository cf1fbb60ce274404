-- Where items have one key, an item takes the place of the one that has its key, and is never refused.
use Rattle.std.proofs.Common.{ℕ, Bool, false, Some, Err, refl, sym}
use Rattle.iddqd_keys.specs.Scan.{AnswersScan}
use Rattle.iddqd_map.specs.Map.{MapState}
use Rattle.iddqd_map.specs.Calls.{ReplacesIfLive}
use Rattle.iddqd_map.specs.OneKey.{IsTaken}
use Rattle.iddqd_map.specs.declared.refusal.ReplaceRefusal.{ReplaceRefusal}
use Rattle.iddqd_map.specs.declared.refusal.ReplaceRefusal.TheVariants.{Missing, Duplicate, Memory}

module _ {T : Type 0} (alike : T → T → Bool) (old new : MapState T) (at : ℕ) (item : T) where
  pub never_refused :
      (refusal : ReplaceRefusal T ℕ)
      → AnswersScan old.store (alike item) (Some at)
      → ReplacesIfLive alike alike false (IsTaken alike) old at item (Err refusal) new
      → ⊥
  never_refused (Missing back) scan refused =
      let (there, live, same) = (scan at).1 refl in
      let none = refused.1 in
      absurd (cc)
  never_refused (Duplicate back other) scan refused =
      let taken = refused.1.1 in
      taken.0 (sym ((taken.1 at).0 ((scan at).1 refl)))
  never_refused (Memory back) scan refused =
      let never = refused.1.1.lacks in
      absurd (cc)
