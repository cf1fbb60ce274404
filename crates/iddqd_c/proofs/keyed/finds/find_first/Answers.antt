use Rattle.iddqd_c.proofs.AnswerLemmas.{finds_first}
use Rattle.iddqd_c.proofs.keyed.finds.find_first.Goals as goal

pub returns-in-Some-clause-finds : goal.returns-in-Some-clause-finds
returns-in-Some-clause-finds g c =
    finds_first c.in-Some.ix c.report.result c.report.new.row c.args.key.now c.args.keyed.now.entries c.in-Some.ensures
    c.report.ensures.gets
