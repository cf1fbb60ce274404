use Rattle.uses.proofs.CalendarLemmas.{free}
use Rattle.uses.proofs.calendar.Calendar.book.Goals as goal

pub returns-in-Ok-clause-taken : goal.returns-in-Ok-clause-taken
returns-in-Ok-clause-taken c =
    let tells = c.in-Ok.ensures.tells in
    let self = c.args.self.now in
    (λ is. absurd (cc), λ taken. absurd (free self.booked.state.store c.args.appointment (tells.first self.by_number) (tells.second self.by_start) taken))

pub returns-in-Err-Full-clause-taken : goal.returns-in-Err-Full-clause-taken
returns-in-Err-Full-clause-taken c =
    let tells = c.in-Err-Full.ensures.tells in
    let self = c.args.self.now in
    (λ is. absurd (cc), λ taken. absurd (free self.booked.state.store c.args.appointment (rw c.in-Err-Full.field-0-is at (tells.first self.by_number)) (rw c.in-Err-Full.field-0-is at (tells.second self.by_start)) taken))

pub returns-in-Err-Memory-clause-taken : goal.returns-in-Err-Memory-clause-taken
returns-in-Err-Memory-clause-taken c =
    let tells = c.in-Err-Memory.ensures.tells in
    let self = c.args.self.now in
    (λ is. absurd (cc), λ taken. absurd (free self.booked.state.store c.args.appointment (rw c.in-Err-Memory.field-0-is at (tells.first self.by_number)) (rw c.in-Err-Memory.field-0-is at (tells.second self.by_start)) taken))
