use Rattle.std.proofs.Common.{◌≡◌, Some, None, is_some, refl}
use Rattle.std.specs.Bool.{OnTrue, OnFalse}
use Rattle.uses.specs.Calendar.{HasNone, HasOne}
use Rattle.uses.proofs.CalendarLemmas.{no_start, starts}
use Rattle.uses.proofs.calendar.is_taken.Goals as goal

pub returns-clause-found : goal.returns-clause-found
returns-clause-found c =
    let s = c.args.diary.now.state.store in
    rw c.is_some.ensures
    (elim c.find2-found.result as (λ r. c.find2-found.result ≡ r
    → OnTrue (is_some r) (HasOne s (λ a. a.start ≡ c.args.start))) [
      | Some ix ↦ λ is.
          let hit = rw is at c.find2-found.ensures.found.found in
          let (a, live, passes) = hit in
          (a, (ix, live), starts s ix a live c.args.start hit)
      | None ↦ λ is. tt
    ] refl)

pub returns-clause-missed : goal.returns-clause-missed
returns-clause-missed c = λ exact.
    let s = c.args.diary.now.state.store in
    rw c.is_some.ensures
    (elim c.find2-found.result as (λ r. c.find2-found.result ≡ r
    → OnFalse (is_some r) (HasNone s (λ a. a.start ≡ c.args.start))) [
      | Some ix ↦ λ is. tt
      | None ↦ λ is. no_start s c.args.start (rw is at (c.find2-found.ensures.found.as_scan exact))
    ] refl)
