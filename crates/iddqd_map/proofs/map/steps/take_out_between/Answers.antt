use Rattle.std.proofs.Common.{ap}
use Rattle.iddqd.specs.ItemSet.{SizedStore}
use Rattle.iddqd_map.proofs.MapLemmas.{IsIndexed-removed, set_left}
use Rattle.iddqd_map.proofs.map.steps.take_out_between.Goals as goal

pub returns-clause-removed : goal.returns-clause-removed
returns-clause-removed g c =
    set_left c.args.items.now c.remove.new.self c.args.ix c.remove.result c.requires.live c.remove.ensures.value c.remove.ensures.removed

pub returns-clause-map : goal.returns-clause-map
returns-clause-map g c =
    let left = set_left c.args.items.now c.remove.new.self c.args.ix c.remove.result c.requires.live c.remove.ensures.value c.remove.ensures.removed in
    IsIndexed-removed _ c.args.state.now c.args.items.now.store _ c.args.ix (ap (λ (s : SizedStore _). s.store) left) c.requires.map.valid c.requires.live c.take_between-next.ensures.indexed
