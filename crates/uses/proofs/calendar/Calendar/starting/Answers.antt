use Rattle.uses.proofs.CalendarLemmas.{none_starting}
use Rattle.uses.proofs.calendar.Calendar.starting.Goals as goal

pub returns-in-None : goal.returns-in-None
returns-in-None c = none_starting c.args.self.now.booked.state.store c.args.start (c.in-None.ensures.found.as_scan c.args.self.now.by_start)
