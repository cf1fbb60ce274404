use Rattle.std.proofs.Common.{inl}
use Rattle.iddqd_c.proofs.keyed.ranges.last.Goals as goal

pub returns-in-Some-clause-gets : goal.returns-in-Some-clause-gets
returns-in-Some-clause-gets c =
    rw c.in-Unique.is (inl (c.report.ensures.done, (_, (_, c.in-Some.ensures, c.report.ensures.row))))

pub returns-in-Some-last_by-clause-gets : goal.returns-in-Some-last_by-clause-gets
returns-in-Some-last_by-clause-gets c =
    rw c.in-Shared.is (inl (
      c.report-in-Some-last_by.ensures.done,
      (_, (_, c.in-Some-last_by.ensures, c.report-in-Some-last_by.ensures.row)),
    ))
