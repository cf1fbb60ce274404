use Rattle.iddqd_map.proofs.FoundLemmas.{scan_misses}
use Rattle.iddqd_map.proofs.map.Map.contains_by.Goals as goal

pub returns : goal.returns
returns g c =
    let test = g.X.UniqueAt.stands_for c.args.query in
    rw c.is_some.ensures (scan_misses c.args.self.now.store test c.find_by.result c.find_by.ensures)
