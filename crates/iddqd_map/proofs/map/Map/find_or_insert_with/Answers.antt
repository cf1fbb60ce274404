use Rattle.std.proofs.Common.{refl, sym, ap}
use Rattle.std.specs.Prelude.{Ok}
use Rattle.iddqd_map.proofs.map.Map.find_or_insert_with.Goals as goal

pub returns-in-Some-clause-found : goal.returns-in-Some-clause-found
returns-in-Some-clause-found g c = λ ix hit.
    let scan = rw c.in-Some.is at c.find_by.ensures in
    (ap Ok (sym ((scan ix).0 hit)), refl)

pub returns-in-Some-clause-inserts : goal.returns-in-Some-clause-inserts
returns-in-Some-clause-inserts g c = λ none.
    let scan = rw c.in-Some.is at c.find_by.ensures in
    absurd (none c.in-Some.ix ((scan c.in-Some.ix).1 refl))

pub returns-clause-found : goal.returns-clause-found
returns-clause-found g c = λ ix hit. absurd ((rw c.in_default.is at c.find_by.ensures) ix hit)

pub returns-in-Some-clause-hit : goal.returns-in-Some-clause-hit
returns-in-Some-clause-hit g c =
    let scan = rw c.in-Some.is at c.find_by.ensures in
    (scan c.in-Some.ix).1 refl
