use Rattle.std.proofs.Common.{Some, refl, rules}
use Rattle.iddqd_maps.specs.Scan.{AnswersScan}
use Rattle.uses.specs.Stock.{same_kind}
use Rattle.uses.proofs.stock.add.Goals as goal

pub returns-in-Err-Duplicate-clause-refused : goal.returns-in-Err-Duplicate-clause-refused
returns-in-Err-Duplicate-clause-refused c =
    let at = c.in-Err-Duplicate.at in
    let scan : AnswersScan c.args.stock.now.store (same_kind c.args.part) (Some at) =
    search (rules, c.in-Err-Duplicate.ensures.inserts) in
    (scan at).1 refl
