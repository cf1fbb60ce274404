use Rattle.iddqd_keys.specs.Bounds.{is_in_bounds}
use Rattle.iddqd_map.specs.Ranges.{itself}
use Rattle.iddqd_keys.proofs.NextLemmas.{IsNextHit-between}
use Rattle.iddqd_map.proofs.SelectionLemmas.{next-listed}
use Rattle.iddqd_map.proofs.selection.KeyRangeSelection.next.Goals as goal

pub returns-clause-next : goal.returns-clause-next
returns-clause-next g c =
    let order = g.X.OrderedAt.order in
    let bounds = c.args.self.now.bounds in
    let s = c.args.items.now.store in
    let next = c.next_between.result in
    next-listed order g.met.X.StepsAt.total s (is_in_bounds g.X.OrderedAt.compare bounds) c.args.ix next
    (IsNextHit-between itself order g.X.OrderedAt.compare g.met.X.StepsAt.fits s c.args.ix bounds.lower bounds.upper
    next c.requires.hit c.next_between.ensures.next)
