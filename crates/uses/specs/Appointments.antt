-- Appointments by room and start.
use Rattle.std.specs.Prelude.{ℕ, Bool}
use Rattle.std.specs.Ordering.{eq_by_cmp, is_eq, nat_cmp, ordering_then}
use Rattle.std.specs.declared.cmp.Ordering.{Ordering}
use Rattle.std.specs.declared.ops.Bound.TheVariants.{Included}
use Rattle.iddqd_maps.specs.OrderedQuery.{is_within}
use Rattle.iddqd_maps.specs.Tuples.{part_answer}
use Rattle.iddqd_maps.specs.declared.item_order_query.Part.TheVariants.{First, Both}
use Rattle.uses.specs.declared.appointments.Appointment.{Appointment}

-- how two appointments compare by room, and then by start
abbrev pub by_room : Appointment → Appointment → Ordering
by_room x y = ordering_then (nat_cmp x.room y.room) (nat_cmp x.start y.start)

-- the appointment is in this room at this time
abbrev pub is_at : ℕ → ℕ → Appointment → Bool
is_at room start appointment = is_eq (ordering_then (nat_cmp room appointment.room) (nat_cmp start appointment.start))

-- the appointments are in one room at one time
abbrev pub same_place : Appointment → Appointment → Bool
same_place x y = is_at x.room x.start y

-- the appointment is in this room
abbrev pub is_in : ℕ → Appointment → Bool
is_in room appointment = eq_by_cmp nat_cmp room appointment.room

-- the appointment is in this room, at this time or later
abbrev pub is_in_from : ℕ → ℕ → Appointment → Bool
is_in_from room start =
    is_within
    (part_answer (λ (q : ℕ) (x : Appointment). nat_cmp q x.room) (λ (q : ℕ) (x : Appointment). nat_cmp q x.start))
    (Included (Both room start)) (Included (First room))
