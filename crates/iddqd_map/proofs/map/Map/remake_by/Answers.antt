use Rattle.iddqd_map.proofs.RemakeLemmas.{Remakes-found}
use Rattle.iddqd_map.proofs.map.Map.remake_by.Goals as goal

pub returns-clause-remakes : goal.returns-clause-remakes
returns-clause-remakes g c =
    Remakes-found g.X.KeyIndex.alike g.X.KeyIndex.may_need_memory g.X.Changes.conflicts g.F.FnOnce c.args.f
    c.args.self.now _ c.in-Some.ix _ _ c.in-Some.ensures c.remake_at.ensures.remakes
