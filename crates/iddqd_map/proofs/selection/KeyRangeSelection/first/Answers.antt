use Rattle.iddqd_keys.specs.Bounds.{is_in_bounds}
use Rattle.iddqd_map.proofs.SelectionLemmas.{first-listed}
use Rattle.iddqd_map.proofs.selection.KeyRangeSelection.first.Goals as goal

pub returns-clause-listed : goal.returns-clause-listed
returns-clause-listed g c =
    first-listed g.X.OrderedAt.order g.met.X.StepsAt.total c.args.items.now.store
    (is_in_bounds g.X.OrderedAt.compare c.args.self.now.bounds) _ c.first_between.ensures.first
