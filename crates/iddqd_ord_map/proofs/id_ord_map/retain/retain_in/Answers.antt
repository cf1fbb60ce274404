use Rattle.std.proofs.Common.{ℕ, length, is_some, ap, arith}
use Rattle.std.proofs.lemmas.List.Sums.{length-filter, count_by-le-length}
use Rattle.std.specs.Fn.{TakesAt, CalledAt}
use Rattle.iddqd.specs.Store.{get}
use Rattle.iddqd_map.specs.Bulk.{AsksAndGives, TakesBoth}
use Rattle.iddqd_order.specs.MapBTreeTable.{order_of}
use Rattle.iddqd_by_order.proofs.OrderedCountLemmas.{length-held}
use Rattle.iddqd_ord_map.proofs.RetainLemmas.{AsksAlong-sorted, Sorts-retained, RetainsAlongTo-keys}
use Rattle.iddqd_ord_map.proofs.id_ord_map.retain.retain_in.Goals as goal

pub remove_refused-requires-clause-can_ask : goal.remove_refused-requires-clause-can_ask
remove_refused-requires-clause-can_ask g c =
    AsksAlong-sorted (TakesBoth g.G.FnMut (TakesAt g.F.FnMut)) (AsksAndGives g.G.FnMut (CalledAt g.F.FnMut)) g.E.OrdKey.key_of g.E.OrdKey.cmp (c.args.keep.now, c.args.gone.now) c.args.items.now.store (order_of c.args.table.now) c.requires.sorted c.requires.can_ask

pub returns-clause-sorted : goal.returns-clause-sorted
returns-clause-sorted g c =
    Sorts-retained g.E.OrdKey.key_of g.E.OrdKey.cmp g.met.E.OrdKey.total (AsksAndGives g.G.FnMut (CalledAt g.F.FnMut)) (c.args.keep.now, c.args.gone.now) (c.remove_refused.new.keep, c.remove_refused.new.gone) c.args.items.now.store c.remove_refused.new.items.store (order_of c.args.table.now) (order_of c.forget_removed.new.table) c.requires.sorted c.remove_refused.ensures.retained c.forget_removed.ensures.forgot

pub returns-clause-retained : goal.returns-clause-retained
returns-clause-retained g c =
    RetainsAlongTo-keys g.E.OrdKey.key_of g.E.OrdKey.cmp g.met.E.OrdKey.total (AsksAndGives g.G.FnMut (CalledAt g.F.FnMut)) (c.args.keep.now, c.args.gone.now) (c.remove_refused.new.keep, c.remove_refused.new.gone) c.args.items.now.store c.remove_refused.new.items.store (order_of c.args.table.now) (order_of c.forget_removed.new.table) c.requires.sorted c.remove_refused.ensures.retained

pub returns-clause-fewer : goal.returns-clause-fewer
returns-clause-fewer g c =
    let order = order_of c.args.table.now in
    let left = c.remove_refused.new.items.store in
    let kept = λ (ix : ℕ). is_some (get left ix) in
    let sorted = Sorts-retained g.E.OrdKey.key_of g.E.OrdKey.cmp g.met.E.OrdKey.total (AsksAndGives g.G.FnMut (CalledAt g.F.FnMut))
    (c.args.keep.now, c.args.gone.now) (c.remove_refused.new.keep, c.remove_refused.new.gone) c.args.items.now.store left order (order_of c.forget_removed.new.table)
    c.requires.sorted c.remove_refused.ensures.retained c.forget_removed.ensures.forgot in
    omega (
      arith,
      length-held c.args.items.now.store order c.requires.sorted.held,
      length-held left (order_of c.forget_removed.new.table) sorted.held,
      ap length c.forget_removed.ensures.forgot,
      length-filter kept order,
      count_by-le-length kept order,
    )
