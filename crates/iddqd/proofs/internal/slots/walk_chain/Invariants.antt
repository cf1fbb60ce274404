use Rattle.std.proofs.Common.{◌-◌, ◌≤◌}
use Rattle.iddqd.proofs.VacancyLemmas.{Leads}
use Rattle.iddqd.proofs.internal.slots.walk_chain.Given as goal

abbrev pub invariant-walking : goal.invariant-walking
invariant-walking g l = record {
  within : l.walked ≤ l.vacant;
  leads : Leads l.slots l.fn.head l.walked l.at;
}

abbrev pub decreases-walking : goal.decreases-walking
decreases-walking g l = l.vacant - l.walked
