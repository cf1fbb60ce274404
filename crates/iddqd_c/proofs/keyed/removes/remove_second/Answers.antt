use Rattle.iddqd_c.proofs.AnswerLemmas.{removes_second}
use Rattle.iddqd_c.proofs.keyed.removes.remove_second.Goals as goal

pub returns-in-Some-clause-removes : goal.returns-in-Some-clause-removes
returns-in-Some-clause-removes g c =
    removes_second c.in-Some.ix c.remove_at.result c.remove_at.new.row c.args.second c.args.keyed.now.entries
    c.remove_at.new.keyed.entries c.in-Some.ensures c.remove_at.ensures.removes
