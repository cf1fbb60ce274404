use Rattle.iddqd_map.specs.KeyLaws.{IsIt, IsOfTwo, few_three, reported_three, some_three}
use Rattle.iddqd_map.specs.PairConflict.{IsReportedBy}
use Rattle.iddqd_map.specs.PairLaws.{IsNextReported-lesser}
use Rattle.iddqd_map.proofs.tri_hash_map.index.TriIndexOfChanges.next_reported.Goals as goal

pub returns-clause-next : goal.returns-clause-next
returns-clause-next g c =
    let at = c.args.conflict.now in
    let before = c.args.before in
    let last = IsNextReported-lesser (IsReportedBy IsIt at.key2) (IsReportedBy IsIt at.key3) before c.past.result c.past-2.result c.past.ensures c.past-2.ensures in
    rw (c.lesser.ensures, c.lesser-last.ensures) (IsNextReported-lesser (IsReportedBy IsIt at.key1) (IsOfTwo at.key2 at.key3) before c.past-3.result _ c.past-3.ensures last)

pub returns-clause-reported : goal.returns-clause-reported
returns-clause-reported g c = λ s item is ix. reported_three s item _ _ _ c.args.conflict.now is ix

pub returns-clause-some : goal.returns-clause-some
returns-clause-some g c = λ s item is. some_three s item _ _ _ c.args.conflict.now is

pub returns-clause-few : goal.returns-clause-few
returns-clause-few g c = let at = c.args.conflict.now in few_three at.key1 at.key2 at.key3
