use Rattle.iddqd_keys.specs.OrderedQuery.{is_equal}
use Rattle.iddqd_map.proofs.SelectionLemmas.{first-equal, first-listed}
use Rattle.iddqd_map.proofs.selection.KeyGroupSelection.first.Goals as goal

pub returns-clause-listed : goal.returns-clause-listed
returns-clause-listed g c =
    let order = g.X.OrderedAt.order in
    let compare = g.X.OrderedAt.compare in
    let query = c.args.self.now.query in
    let s = c.args.items.now.store in
    first-listed order g.met.X.StepsAt.total s (is_equal (compare query)) _
    (first-equal order compare g.met.X.StepsAt.fits s query _ (rw c.only.ensures at c.first_between.ensures.first))
