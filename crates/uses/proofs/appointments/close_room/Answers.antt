use Rattle.std.proofs.Common.{◌≡◌}
use Rattle.std.specs.Ordering.{nat_cmp, is_eq}
use Rattle.uses.specs.declared.appointments.Appointment.{Appointment}
use Rattle.iddqd_maps.proofs.CallerLemmas.{Drops-left, is_tied}
use Rattle.uses.proofs.appointments.close_room.Goals as goal

pub returns-clause-dropped : goal.returns-clause-dropped
returns-clause-dropped c =
    Drops-left c.args.appointments.now.store c.remove_in.new.self.store
    (λ (appointment : Appointment). is_eq (nat_cmp c.args.room appointment.room))
    (λ (appointment : Appointment). appointment.room ≡ c.args.room)
    (λ (appointment : Appointment). is_tied c.args.room appointment.room)
    (rw c.equal.ensures at c.remove_in.ensures.left)
