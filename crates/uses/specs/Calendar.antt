-- Appointments that are booked, by their starts, and what calls leave of them.
use Rattle.std.specs.Prelude.{◌≡◌, ◌⊎◌, ℕ, Bool, Some}
use Rattle.std.specs.Ordering.{nat_cmp, eq_by_cmp}
use Rattle.iddqd_keyed.specs.State.{State, unbound}
use Rattle.iddqd_keyed.specs.Store.{Store, get}
use Rattle.uses.specs.declared.calendar.Appointment.{Appointment}

-- the store has this appointment
abbrev pub IsBooked : Store Appointment → Appointment → Type 0
IsBooked s a = (ix : ℕ) × (get s ix ≡ Some a)

-- the store has no appointment of which this holds
abbrev pub HasNone : Store Appointment → (Appointment → Type 0) → Type 0
HasNone s IsThis = (a : Appointment) → IsBooked s a → IsThis a → ⊥

-- the store has one of which this holds
abbrev pub HasOne : Store Appointment → (Appointment → Type 0) → Type 0
HasOne s IsThis = (a : Appointment) × IsBooked s a × IsThis a

-- it has one with this one's number, or with its start
pub record HasConflict (s : Store Appointment) (a : Appointment) : Type 0 where
  pub other : Appointment
  pub booked : IsBooked s other
  pub shares : (other.number ≡ a.number) ⊎ (other.start ≡ a.start)

-- the appointment starts then
abbrev pub starts_at : ℕ → Appointment → Bool
starts_at start a = eq_by_cmp nat_cmp start a.start

-- this appointment, which starts then, was at this index and was removed, and all else stays
pub record Cancels
    {S : Type 0} (start : ℕ) (old : State Appointment S) (taken : ℕ × Appointment) (new : State Appointment S)
    : Type 0 where
  pub live : get old.store taken.0 ≡ Some taken.1
  pub starts : taken.1.start ≡ start
  pub left : new ≡ unbound old taken.0
