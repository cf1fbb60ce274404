use Rattle.iddqd_c.proofs.AnswerLemmas.{removes_first}
use Rattle.iddqd_c.proofs.keyed.removes.remove_first.Goals as goal

pub returns-in-Some-clause-removes : goal.returns-in-Some-clause-removes
returns-in-Some-clause-removes g c =
    removes_first c.args.key.now c.of.result c.args.keyed.now.entries c.remove_full_by.new.self _ _ c.in-Some.ensures.removes
    c.of.ensures
