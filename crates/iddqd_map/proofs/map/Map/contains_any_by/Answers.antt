use Rattle.iddqd_map.proofs.GroupLemmas.{FindsSome-misses}
use Rattle.iddqd_map.proofs.map.Map.contains_any_by.Goals as goal

pub returns : goal.returns
returns g c =
    let test = g.X.GroupedAt.stands_for c.args.query in
    rw c.is_some.ensures (FindsSome-misses test c.args.self.now.store c.find_any_by.result c.find_any_by.ensures)
