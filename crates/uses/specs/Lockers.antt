-- Lockers by their keys, and why one isn't handed out.
use Rattle.std.specs.Prelude.{◌≡◌, ◌==◌, ℕ, Bool, Option, Some, None}
use Rattle.iddqd_maps.specs.Map.{MapState, room}
use Rattle.iddqd_maps.specs.Scan.{HasNoHit}
use Rattle.iddqd_maps.specs.Several.{either_key}
use Rattle.iddqd_maps.specs.Store.{IsFull}
use Rattle.uses.specs.Exchanges.{HasHit}
use Rattle.uses.specs.declared.lockers.HandOutError.{HandOutError}
use Rattle.uses.specs.declared.lockers.HandOutError.TheVariants.{NumberTaken, HolderTaken, BothTaken, Full, Memory}
use Rattle.uses.specs.declared.lockers.Locker.{Locker}

-- the locker has this number
abbrev pub has_number : ℕ → Locker → Bool
has_number number locker = number == locker.number

-- somebody has it
abbrev pub has_holder : ℕ → Locker → Bool
has_holder holder locker = holder == locker.holder

-- the locker, opened then
abbrev pub opened_at : ℕ → Locker → Locker
opened_at time locker = record locker { opened = time }

-- the lockers have one number
abbrev pub same_number : Locker → Locker → Bool
same_number x y = has_number x.number y

-- or one holder
abbrev pub same_holder : Locker → Locker → Bool
same_holder x y = has_holder x.holder y

-- they share a key
abbrev pub share_key : Locker → Locker → Bool
share_key = either_key same_number same_holder

-- which keys are taken, if a locker with the number or one of the holder is reported
abbrev pub taken_keys : Option ℕ → Option ℕ → HandOutError
taken_keys (Some one) (Some other) = BothTaken
taken_keys (Some one) None = NumberTaken
taken_keys None other = HolderTaken

-- why a locker with this number wasn't handed out to this holder
abbrev pub IsWhyNotHandedOut : ℕ → ℕ → MapState Locker → HandOutError → Type 0
IsWhyNotHandedOut number holder old NumberTaken =
    HasHit old.store (has_number number) × HasNoHit old.store (has_holder holder)
IsWhyNotHandedOut number holder old HolderTaken =
    HasNoHit old.store (has_number number) × HasHit old.store (has_holder holder)
IsWhyNotHandedOut number holder old BothTaken =
    HasHit old.store (has_number number) × HasHit old.store (has_holder holder)
IsWhyNotHandedOut number holder old Full =
    HasNoHit old.store (has_number number) × HasNoHit old.store (has_holder holder) × IsFull old.store
IsWhyNotHandedOut number holder old Memory =
    HasNoHit old.store (has_number number) × HasNoHit old.store (has_holder holder) × (IsFull old.store → ⊥)
    × (room old ≡ 0)
