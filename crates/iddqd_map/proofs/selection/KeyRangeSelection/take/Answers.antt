use Rattle.iddqd_keys.specs.Bounds.{is_in_bounds}
use Rattle.iddqd_map.specs.Ranges.{itself}
use Rattle.iddqd_keys.proofs.NextLemmas.{IsNextHit-between}
use Rattle.iddqd_map.proofs.SelectionLemmas.{taken-listed}
use Rattle.iddqd_map.proofs.selection.KeyRangeSelection.take.Goals as goal

pub returns-clause-next : goal.returns-clause-next
returns-clause-next g c =
    let order = g.X.OrderedAt.order in
    let bounds = c.args.self.now.bounds in
    let s = c.args.items.now.store in
    let next = c.take_between.result in
    let (item, live, passes) = c.requires.hit in
    taken-listed order g.met.X.StepsAt.total s (is_in_bounds g.X.OrderedAt.compare bounds) c.args.ix item next live
    (IsNextHit-between itself order g.X.OrderedAt.compare g.met.X.StepsAt.fits s c.args.ix bounds.lower bounds.upper
    next c.requires.hit c.take_between.ensures.next)
