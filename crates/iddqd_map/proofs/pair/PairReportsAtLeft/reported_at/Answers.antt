use Rattle.std.proofs.Common.{rules, ◌≡◌, None}
use Rattle.iddqd_map.specs.PairConflict.{first_of}
use Rattle.iddqd_map.specs.PairLaws.{reports_none}
use Rattle.iddqd_map.proofs.pair.PairReportsAtLeft.reported_at.Goals as goal

pub returns-in_err-first : goal.returns-in_err-first
returns-in_err-first g c = λ s item is.
    let back : c.from_residual.result ≡ None = search rules in
    let nothing : first_of c.args.conflict.now ≡ None = search rules in
    rw back
    (reports_none g.A.KeyIndex.alike g.A.ReportsAt.alike_at g.met.A.ReportsAt.alike_there s item
    (rw nothing at is.first))
