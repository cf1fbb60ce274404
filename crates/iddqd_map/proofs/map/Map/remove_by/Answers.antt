use Rattle.iddqd_map.proofs.TakeLemmas.{Removes-full}
use Rattle.iddqd_map.proofs.map.Map.remove_by.Goals as goal

pub returns-in-Some-clause-removes : goal.returns-in-Some-clause-removes
returns-in-Some-clause-removes g c =
    Removes-full _ _ (g.X.UniqueAt.stands_for c.args.query) c.in-Some.field-0-0 c.in-Some.item c.in-Some.ensures.removes
