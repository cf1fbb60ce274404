-- Seats by their keys.
use Rattle.std.specs.Prelude.{◌==◌, ℕ, Bool, true}
use Rattle.iddqd_maps.specs.ThreeKeys.{any_key}
use Rattle.uses.specs.declared.seats.Seat.{Seat}

-- the seat has this place
abbrev pub has_place : ℕ → Seat → Bool
has_place place seat = place == seat.place

-- it has this guest
abbrev pub has_guest : ℕ → Seat → Bool
has_guest guest seat = guest == seat.guest

-- it has this ticket
abbrev pub has_ticket : ℕ → Seat → Bool
has_ticket ticket seat = ticket == seat.ticket

-- the seat, but it has this place
abbrev pub with_place : ℕ → Seat → Seat
with_place place seat = record seat { place = place }

-- this guest
abbrev pub with_guest : ℕ → Seat → Seat
with_guest guest seat = record seat { guest = guest }

-- this ticket
abbrev pub with_ticket : ℕ → Seat → Seat
with_ticket ticket seat = record seat { ticket = ticket }

-- the seat, but it is paid
abbrev pub with_payment : Seat → Seat
with_payment seat = record seat { is_paid = true }

-- the seats have one place, one guest, or one ticket
abbrev pub same_place : Seat → Seat → Bool
same_place x y = has_place x.place y

abbrev pub same_guest : Seat → Seat → Bool
same_guest x y = has_guest x.guest y

abbrev pub same_ticket : Seat → Seat → Bool
same_ticket x y = has_ticket x.ticket y

-- they share a key
abbrev pub share_key : Seat → Seat → Bool
share_key = any_key same_place same_guest same_ticket
