use Rattle.uses.proofs.CalendarLemmas.{none_numbered}
use Rattle.uses.proofs.calendar.Calendar.numbered.Goals as goal

pub returns-in-None : goal.returns-in-None
returns-in-None c = none_numbered c.args.self.now.booked.state.store c.args.number (c.in-None.ensures.found.as_scan c.args.self.now.by_number)
