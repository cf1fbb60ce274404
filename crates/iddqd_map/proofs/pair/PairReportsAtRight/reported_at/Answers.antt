use Rattle.std.proofs.Common.{rules, ◌≡◌, None}
use Rattle.iddqd_map.specs.PairConflict.{second_of}
use Rattle.iddqd_map.specs.PairLaws.{reports_none}
use Rattle.iddqd_map.proofs.pair.PairReportsAtRight.reported_at.Goals as goal

pub returns-in_err-second : goal.returns-in_err-second
returns-in_err-second g c = λ s item is.
    let back : c.from_residual.result ≡ None = search rules in
    let nothing : second_of c.args.conflict.now ≡ None = search rules in
    rw back
    (reports_none g.B.KeyIndex.alike g.B.ReportsAt.alike_at g.met.B.ReportsAt.alike_there s item
    (rw nothing at is.second))
