use Rattle.iddqd_keys.specs.OrderedQuery.{is_equal}
use Rattle.iddqd_map.proofs.SelectionLemmas.{next-equal, next-listed}
use Rattle.iddqd_map.proofs.selection.KeyGroupSelection.next.Goals as goal

pub returns-clause-next : goal.returns-clause-next
returns-clause-next g c =
    let order = g.X.OrderedAt.order in
    let compare = g.X.OrderedAt.compare in
    let query = c.args.self.now.query in
    let s = c.args.items.now.store in
    let next = c.next_between.result in
    next-listed order g.met.X.StepsAt.total s (is_equal (compare query)) c.args.ix next
    (next-equal order compare g.met.X.StepsAt.fits s query c.args.ix next c.requires.hit
    (rw c.only.ensures at c.next_between.ensures.next))
