use Rattle.std.proofs.Common.{◌≡◌, Some, None, MatchOption, refl}
use Rattle.uses.specs.Calendar.{HasNone, Cancels}
use Rattle.uses.proofs.CalendarLemmas.{no_start, starts}
use Rattle.uses.proofs.calendar.cancel.Goals as goal

pub returns-clause-cancelled : goal.returns-clause-cancelled
returns-clause-cancelled c =
    let old = c.args.diary.now.state in
    let new = c.remove2.new.self.state in
    elim c.remove2.result as (λ r. c.remove2.result ≡ r
    → MatchOption r (new ≡ old) (λ taken. Cancels c.args.start old taken new)) [
      | None ↦ λ is. (rw is at c.remove2.ensures.removes.removes).1
      | Some taken ↦ λ is.
          let (hit, (live, left)) = rw is at c.remove2.ensures.removes.removes in
          record { live = live; starts = starts old.store taken.0 taken.1 live c.args.start hit; left = left }
    ] refl

pub returns-clause-missed : goal.returns-clause-missed
returns-clause-missed c = λ exact.
    let s = c.args.diary.now.state.store in
    elim c.remove2.result as (λ r. c.remove2.result ≡ r → r ≡ None → HasNone s (λ a. a.start ≡ c.args.start)) [
      | None ↦ λ is none. no_start s c.args.start ((rw is at c.remove2.ensures.removes.as_scan) exact)
      | Some taken ↦ λ is none. absurd (cc)
    ] refl
