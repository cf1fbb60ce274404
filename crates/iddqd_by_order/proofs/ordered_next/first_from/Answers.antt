use Rattle.std.proofs.Common.{rules, ◌≡◌, ◌∙◌, refl, ap, sym, subst}
use Rattle.std.specs.declared.ops.Bound.TheVariants.{Unbounded}
use Rattle.std.specs.Cmp.{on_total}
use Rattle.std.specs.Ordering.{on}
use Rattle.std.specs.Range.Bound.{bound_map}
use Rattle.iddqd_order.specs.Asking.{closure_of}
use Rattle.iddqd_order.specs.MapBTreeTable.{order_of}
use Rattle.iddqd_order.proofs.AskLemmas.{CanAsk-by, Steady-by}
use Rattle.iddqd_keys.specs.KeyWalk.{IsFirstHit}
use Rattle.iddqd_keys.specs.OrderedQuery.{is_between}
use Rattle.iddqd_keys.specs.Scan.{IsLive, IsKeyAt}
use Rattle.iddqd_by_order.proofs.OrderedFindLemmas.{answer_at}
use Rattle.iddqd_by_order.proofs.ItemLemmas.{IsInPlace-items}
use Rattle.iddqd_by_order.proofs.OrderedNextLemmas.{first-at}
use Rattle.iddqd_by_order.proofs.OrderedRangeLemmas.{SortsWithin-behind, reads_borrowed}
use Rattle.iddqd_by_order.specs.Ordered.{itself}
use Rattle.iddqd_by_order.proofs.ordered_next.first_from.Goals as goal

pub first_from_reading-requires : goal.first_from_reading-requires
first_from_reading-requires g c =
    CanAsk-by _ _ (λ f. f ≡ closure_of c.new-asking.result) (λ f f' ix r i h e. search rules)
    (λ f ix i h.
    let live : IsLive c.args.items.now.store ix = (c.requires.holds.each ix).0 h in
    search rules)
    _ refl

pub returns-clause-first : goal.returns-clause-first
returns-clause-first g c =
    let compare = on g.E.OrdKey.key_of g.E.OrdKey.cmp in
    let cmp = g.Q.ItemRangeQuery.compare_item in
    let s = c.args.items.now.store in
    let order = order_of c.args.table.now in
    let found = c.first_from_reading.ensures in
    let from = is_between (bound_map cmp c.args.lower) (bound_map cmp Unbounded) in
    let sorts = SortsWithin-behind itself compare cmp s order c.args.lower Unbounded c.requires.holds _ c.new-asking.result c.first_from_reading.new.asking (on_total g.E.OrdKey.key_of g.met.E.OrdKey.total) g.met.Q.ItemRangeQuery.fits
    (λ q. Steady-by _ _ (λ f. f ≡ closure_of c.new-asking.result) (λ f f' ix r i h e. search rules) _ _
    (λ f f' ix r i h e.
    let read : IsKeyAt itself s ix r.now = search (rules, i, e) in
    ap (cmp q) read.2 ∙ sym (answer_at itself compare s order (cmp q) ix read.0 read.1))
    _ refl)
    (IsInPlace-items g.E.OrdKey.key_of g.E.OrdKey.cmp s order c.requires.placed) _ (reads_borrowed (λ r. r.query) cmp c.as_ref.result c.by_item-from.result c.args.lower c.as_ref.ensures c.by_item-from.ensures)
    found.place found.begins refl in
    subst (IsFirstHit itself compare s from) (sym found.index) (first-at itself compare s order from found.place sorts)

pub returns-clause-spot : goal.returns-clause-spot
returns-clause-spot g c = c.first_from_reading.ensures.spot
