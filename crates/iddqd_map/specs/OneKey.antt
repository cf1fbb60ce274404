-- What calls report and do if items have one key.
use Rattle.std.specs.Prelude.{◌≡◌, ◌≢◌, ℕ, Bool, false, Option, Some, None, Result, Ok, Err}
use Rattle.std.specs.Borrow.{Bor}
use Rattle.std.specs.Fn.{Once}
use Rattle.iddqd.specs.Store.{Store, rebound}
use Rattle.iddqd_keys.specs.Scan.{AnswersScan}
use Rattle.iddqd_map.specs.Map.{MapState, IsOnly}
use Rattle.iddqd_map.specs.Calls.{InsertsAt, RefusesFull, RefusesMemory, Replaces, ChangesByCall}
use Rattle.iddqd_map.specs.declared.refusal.OverwriteRefusal.{OverwriteRefusal}
use Rattle.iddqd_map.specs.declared.refusal.OverwriteRefusal.TheVariants.{Full, Memory}
use Rattle.iddqd_map.specs.declared.refusal.ReplaceRefusal.{ReplaceRefusal}

module _ {T : Type 0} (alike : T → T → Bool) (grown : ℕ → ℕ) where
  -- If an item had the key, the new one replaced it, it comes back, and no memory was taken. Otherwise the new one was
  -- inserted or refused.
  abbrev pub OverwritesOne : MapState T → T → Result (ℕ × Option T) (OverwriteRefusal T) → MapState T → Type 0
  OverwritesOne old item (Ok (ix, Some was)) new =
      IsOnly old.store (alike item) ix was × (new.store ≡ rebound old.store ix item) × (new.memory ≡ old.memory)
  OverwritesOne old item (Ok (ix, None)) new = InsertsAt alike grown old item ix new
  OverwritesOne old item (Err (Full back)) new = RefusesFull alike grown old item back new
  OverwritesOne old item (Err (Memory back)) new = RefusesMemory alike grown old item back new

-- the item at the reported index has the key of this one, and no other has
abbrev pub IsReported : {T : Type 0} → (T → T → Bool) → Store T → T → ℕ → Type 0
IsReported alike s item at = AnswersScan s (alike item) (Some at)

-- the item at the reported index, which isn't `ix`, has the key of this one
abbrev pub IsTaken : {T : Type 0} → (T → T → Bool) → Store T → ℕ → T → ℕ → Type 0
IsTaken alike s ix item at = (at ≢ ix) × AnswersScan s (alike item) (Some at)

module _ {T : Type 0} (alike : T → T → Bool) where
  -- what a replacement of the item that passes the test may return and leave where the key goes by its hash: such a
  -- replacement needs no memory
  abbrev pub ReplacesOne : MapState T → (T → Bool) → T → Result T (ReplaceRefusal T ℕ) → MapState T → Type 0
  ReplacesOne = Replaces alike alike false (IsTaken alike)

  -- the same for a closure that makes the new item of the one that passes
  abbrev pub ChangesOne :
      {F : Type 0} → Once F (Bor T × Unit {0}) T → F → MapState T → (T → Bool)
      → Result (Option T) (ReplaceRefusal T ℕ) → MapState T → Type 0
  ChangesOne g f = ChangesByCall alike alike false (IsTaken alike) g f
