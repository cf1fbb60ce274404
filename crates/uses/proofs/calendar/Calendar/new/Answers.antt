use Rattle.std.proofs.Common.{[]}
use Rattle.std.specs.List.Sorted.{IsStrictlySortedBy}
use Rattle.std.specs.declared.cmp.Ordering.{Ordering}
use Rattle.uses.proofs.calendar.Calendar.new.Goals as goal

nothing_sorted : {K : Type 0} (compare : K → K → Ordering) → IsStrictlySortedBy compare []
unfolding IsStrictlySortedBy
nothing_sorted compare = tt

pub invariant_of-result-clause-by_number : goal.invariant_of-result-clause-by_number
invariant_of-result-clause-by_number c = rw c.new.ensures.state (record { placed = λ ix item live. absurd (cc); apart = λ i j x y live other alike. absurd (cc) })

pub invariant_of-result-clause-by_start : goal.invariant_of-result-clause-by_start
invariant_of-result-clause-by_start c = rw c.new.ensures.state (record { placed = nothing_sorted _; apart = λ i j x y live other alike. absurd (cc) })
