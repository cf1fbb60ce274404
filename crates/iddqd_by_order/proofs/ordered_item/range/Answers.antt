use Rattle.std.proofs.Common.{rules, ◌≡◌, ◌∙◌, refl, ap, sym}
use Rattle.std.specs.Cmp.{on_total}
use Rattle.std.specs.Ordering.{on}
use Rattle.iddqd_order.specs.Asking.{closure_of}
use Rattle.iddqd_order.specs.MapBTreeTable.{order_of}
use Rattle.iddqd_order.proofs.AskLemmas.{CanAsk-by, Steady-by}
use Rattle.iddqd_keys.specs.Scan.{IsLive, IsKeyAt}
use Rattle.iddqd_by_order.specs.Ordered.{itself}
use Rattle.iddqd_by_order.proofs.OrderedFindLemmas.{answer_at}
use Rattle.iddqd_by_order.proofs.OrderedRangeLemmas.{WalksWithin-walked, reads_borrowed}
use Rattle.iddqd_by_order.proofs.ordered_item.range.Goals as goal

pub range_reading-requires : goal.range_reading-requires
range_reading-requires g c =
    CanAsk-by _ _ (λ f. f ≡ closure_of c.new-asking.result) (λ f f' ix r i h e. search rules)
    (λ f ix i h.
    let live : IsLive c.args.items.now.store ix = (c.requires.each ix).0 h in
    search rules)
    _ refl

pub returns : goal.returns
returns g c =
    let compare = on g.E.OrdKey.key_of g.E.OrdKey.cmp in
    let cmp = g.Q.ItemRangeQuery.compare_item in
    let s = c.args.items.now.store in
    let order = order_of c.args.table.now in
    WalksWithin-walked itself compare cmp s order c.args.bounds.now.lower c.args.bounds.now.upper c.requires _ c.new-asking.result c.range_reading.new.asking
    (on_total g.E.OrdKey.key_of g.met.E.OrdKey.total) g.met.Q.ItemRangeQuery.fits
    (λ q. Steady-by _ _ (λ f. f ≡ closure_of c.new-asking.result) (λ f f' ix r i h e. search rules) _ _
    (λ f f' ix r i h e.
    let read : IsKeyAt itself s ix r.now = search (rules, i, e) in
    ap (cmp q) read.2 ∙ sym (answer_at itself compare s order (cmp q) ix read.0 read.1))
    _ refl)
    _ _ (reads_borrowed (λ r. r.query) cmp c.as_ref.result c.by_item-from.result c.args.bounds.now.lower c.as_ref.ensures c.by_item-from.ensures)
    (reads_borrowed (λ r. r.query) cmp c.as_ref-2.result c.by_item-to.result c.args.bounds.now.upper c.as_ref-2.ensures c.by_item-to.ensures)
    c.range_reading.result c.range_reading.ensures
