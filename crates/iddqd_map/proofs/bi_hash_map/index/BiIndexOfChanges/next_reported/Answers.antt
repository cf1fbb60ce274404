use Rattle.iddqd_map.specs.KeyLaws.{IsIt, few_two, reported_two, some_two}
use Rattle.iddqd_map.specs.PairConflict.{IsReportedBy}
use Rattle.iddqd_map.specs.PairLaws.{IsNextReported-lesser}
use Rattle.iddqd_map.proofs.bi_hash_map.index.BiIndexOfChanges.next_reported.Goals as goal

pub returns-clause-next : goal.returns-clause-next
returns-clause-next g c =
    let at = c.args.conflict.now in
    rw c.lesser.ensures (IsNextReported-lesser (IsReportedBy IsIt at.key1) (IsReportedBy IsIt at.key2) c.args.before
    c.past.result c.past-2.result c.past.ensures c.past-2.ensures)

pub returns-clause-reported : goal.returns-clause-reported
returns-clause-reported g c = λ s item is ix.
    let at = c.args.conflict.now in
    reported_two s item _ _ at.key1 at.key2 is ix

pub returns-clause-some : goal.returns-clause-some
returns-clause-some g c = λ s item is. some_two s item _ _ c.args.conflict.now.key1 c.args.conflict.now.key2 is

pub returns-clause-few : goal.returns-clause-few
returns-clause-few g c = few_two c.args.conflict.now.key1 c.args.conflict.now.key2
