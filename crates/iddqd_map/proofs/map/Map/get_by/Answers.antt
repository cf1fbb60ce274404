use Rattle.iddqd_map.proofs.FoundLemmas.{FindsItem-found}
use Rattle.iddqd_map.proofs.map.Map.get_by.Goals as goal

pub returns : goal.returns
returns g c =
    let test = g.X.UniqueAt.stands_for c.args.query in
    FindsItem-found c.args.self.now.store test c.in_ok-find_by.field-0 _ c.in_ok-find_by.ensures
    (rw (← c.self.view_is) c.get.ensures)
