use Rattle.uses.proofs.CalendarLemmas.{no_start}
use Rattle.uses.proofs.calendar.starting.Goals as goal

pub returns-in-None-clause-missed : goal.returns-in-None-clause-missed
returns-in-None-clause-missed c = λ exact none.
    no_start c.args.diary.now.state.store c.args.start (c.in-None.ensures.found.as_scan exact)
