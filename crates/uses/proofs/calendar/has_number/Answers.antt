use Rattle.std.proofs.Common.{◌≡◌, Some, None, is_some, refl}
use Rattle.std.specs.Bool.{OnTrue, OnFalse}
use Rattle.uses.specs.Calendar.{HasNone, HasOne}
use Rattle.uses.proofs.CalendarLemmas.{no_number, numbered}
use Rattle.uses.proofs.calendar.has_number.Goals as goal

pub returns-clause-found : goal.returns-clause-found
returns-clause-found c =
    let s = c.args.diary.now.state.store in
    rw c.is_some.ensures
    (elim c.find1-found.result as (λ r. c.find1-found.result ≡ r
    → OnTrue (is_some r) (HasOne s (λ a. a.number ≡ c.args.number))) [
      | Some ix ↦ λ is.
          let found = rw is at c.find1-found.ensures.found.found in
          let (a, live, passes) = found.hit in
          (a, (ix, live), numbered s ix a live c.args.number found.hit)
      | None ↦ λ is. tt
    ] refl)

pub returns-clause-missed : goal.returns-clause-missed
returns-clause-missed c = λ exact.
    let s = c.args.diary.now.state.store in
    rw c.is_some.ensures
    (elim c.find1-found.result as (λ r. c.find1-found.result ≡ r
    → OnFalse (is_some r) (HasNone s (λ a. a.number ≡ c.args.number))) [
      | Some ix ↦ λ is. tt
      | None ↦ λ is. no_number s c.args.number (rw is at (c.find1-found.ensures.found.as_scan exact))
    ] refl)
