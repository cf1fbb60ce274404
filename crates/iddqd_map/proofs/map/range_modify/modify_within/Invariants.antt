use Rattle.std.proofs.Common.{◌≡◌, IfSome}
use Rattle.iddqd_keys.specs.Bounds.{is_in_bounds}
use Rattle.iddqd_map.specs.KeyIndex.{IsIndexed}
use Rattle.iddqd_map.specs.Ranges.{itself}
use Rattle.iddqd_map.proofs.ModifyLemmas.{ModifyingWithin, level_between}
use Rattle.iddqd_map.proofs.RangeRetainLemmas.{to_ask}
use Rattle.iddqd_map.proofs.map.range_modify.modify_within.Given as goal

abbrev pub invariant-loop-next : goal.invariant-loop-next
invariant-loop-next g l =
    let order = g.X.OrderedAt.order in
    let cmp = g.X.OrderedAt.compare in
    let total = g.met.X.StepsAt.total in
    let tie = g.met.X.StepsAt.keys_tie in
    let within = is_in_bounds cmp l.fn.bounds in
    let level = level_between order cmp g.met.X.StepsAt.fits l.fn.bounds.lower l.fn.bounds.upper in
    record {
      kept : IsIndexed (g.X.KeyIndex.indexes l.indexes) l.state l.items.store;
      stands : IfSome l.next (g.X.StepsAt.stands l.indexes l.spot);
      modifying : ModifyingWithin g.F.FnMut g.X.KeyIndex.keys order total tie within level l.fn.f l.fn.items.store
          l.items.store l.next l.f l.count;
      slots : l.items.capacity ≡ l.fn.items.capacity;
    }

abbrev pub decreases-loop-next : goal.decreases-loop-next
decreases-loop-next g l = to_ask itself g.X.OrderedAt.order l.fn.items.store l.next
