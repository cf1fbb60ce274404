use Rattle.iddqd_map.specs.Append.{CanReport, GivesMove}
use Rattle.iddqd_map.proofs.AppendLemmas.{Appending, Reporting}
use Rattle.iddqd_map.proofs.map.Map.append.Given as goal

abbrev pub invariant-loop-at : goal.invariant-loop-at
invariant-loop-at g l = record {
  appending : Appending g.X.KeyIndex.alike g.X.KeyIndex.grown l.fn.self l.fn.other l.self l.other l.at;
  reporting : Reporting g.X.KeyIndex.alike g.X.KeyIndex.grown (GivesMove g.F.FnMut) l.initial.moved l.fn.self l.fn.other
      l.self l.other l.at l.moved;
  can : CanReport g.F.FnMut l.moved;
}
