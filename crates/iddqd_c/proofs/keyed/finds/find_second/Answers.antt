use Rattle.iddqd_c.proofs.AnswerLemmas.{finds_second}
use Rattle.iddqd_c.proofs.keyed.finds.find_second.Goals as goal

pub returns-in-Some-clause-finds : goal.returns-in-Some-clause-finds
returns-in-Some-clause-finds g c =
    finds_second c.in-Some.ix c.report.result c.report.new.row c.args.second c.args.keyed.now.entries c.in-Some.ensures
    c.report.ensures.gets
