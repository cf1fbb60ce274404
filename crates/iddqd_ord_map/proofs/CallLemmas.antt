-- What a call at the index that a look-up found is by the key.
use Rattle.std.proofs.Common.{◌≡◌, ℕ, Bool, Some, Result, Ok, Err, true, refl, sym, ◌∙◌}
use Rattle.iddqd.specs.Store.{get, rebound}
use Rattle.iddqd_keys.specs.Scan.{AnswersScan}
use Rattle.iddqd_map.specs.Calls.{ReplacesAt, ReplacesIfLive, Replaces}
use Rattle.iddqd_map.specs.Map.{MapState, IsOnly}
use Rattle.iddqd_map.specs.OneKey.{IsTaken}
use Rattle.iddqd_map.specs.declared.refusal.ReplaceRefusal.{ReplaceRefusal}
use Rattle.iddqd_map.specs.declared.refusal.ReplaceRefusal.TheVariants.{Missing, Duplicate as Taken, Memory as Refused}

module _ {T : Type 0} where
  module _ (alike : T → T → Bool) (may_need_memory : Bool) (old new : MapState T) (ix : ℕ) (item was : T)
      (live : get old.store ix ≡ Some was) where
    pub ReplacesAt-live :
        (r : Result T (ReplaceRefusal T ℕ))
        → ReplacesIfLive alike alike may_need_memory (IsTaken alike) old ix item r new
        → ReplacesAt alike alike may_need_memory (IsTaken alike) old ix item r new
    ReplacesAt-live (Ok left) is = is.1
    ReplacesAt-live (Err (Missing back)) (same, none, unchanged) = absurd (cc (none, live))
    ReplacesAt-live (Err (Taken back at)) is = is.1
    ReplacesAt-live (Err (Refused back)) is = is.1

    pub Replaces-at :
        (test : T → Bool) (r : Result T (ReplaceRefusal T ℕ))
        → AnswersScan old.store test (Some ix)
        → ReplacesIfLive alike alike may_need_memory (IsTaken alike) old ix item r new
        → Replaces alike alike may_need_memory (IsTaken alike) old test item r new
    Replaces-at test (Ok left) scan is = (ix, scan, is.1)
    Replaces-at test (Err (Missing back)) scan (same, none, unchanged) = absurd (cc (none, live))
    Replaces-at test (Err (Taken back at)) scan is = (ix, scan, is.1)
    Replaces-at test (Err (Refused back)) scan is = (ix, scan, is.1)

  -- an item that is given the place of the one that has its key
  module _ (alike : T → T → Bool) (old mid new : MapState T) (item back : T) (at : ℕ)
      (reported : (back ≡ item) × AnswersScan old.store (alike item) (Some at) × (mid ≡ old)) where
    abbrev Did : Result T (ReplaceRefusal T ℕ) → Type 0
    Did r = ReplacesIfLive alike alike true (IsTaken alike) mid at back r new

    pub not_refused : (refusal : ReplaceRefusal T ℕ) → Did (Err refusal) → ⊥
    not_refused (Missing again) is =
        let (same, none, unchanged) = rw (reported.2, reported.0) at is in
        let (item, live, passed) = (reported.1 at).1 refl in
        cc (none, live)
    not_refused (Taken again other) is =
        let (there, (same, (differs, only), unchanged)) = rw (reported.2, reported.0) at is in
        differs (sym ((only at).0 ((reported.1 at).1 refl)))
    not_refused (Refused again) is =
        let (there, (same, lacks, unchanged)) = rw (reported.2, reported.0) at is in
        let (was, live, passed) = (reported.1 at).1 refl in
        let (other, is_there, differs) = lacks.changed in
        let one : Some was ≡ Some other = sym live ∙ is_there in
        cc

    pub overwritten :
        (was : T)
        → Did (Ok was)
        → IsOnly old.store (alike item) at was × (new.store ≡ rebound old.store at item) × (new.memory ≡ old.memory)
    overwritten was is =
        let did = rw (reported.2, reported.0) at is in
        (record { live = did.1.live; only = reported.1 }, did.1.left, did.1.memory)
