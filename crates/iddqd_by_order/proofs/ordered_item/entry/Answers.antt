use Rattle.std.proofs.Common.{rules, ◌≡◌, ◌∙◌, refl, sym}
use Rattle.std.specs.Cmp.{on_total}
use Rattle.std.specs.Ordering.{on}
use Rattle.iddqd_order.specs.Asking.{closure_of}
use Rattle.iddqd_order.specs.MapBTreeTable.{order_of}
use Rattle.iddqd_order.proofs.AskLemmas.{CanAsk-by, Steady-by}
use Rattle.iddqd_keys.specs.Scan.{IsLive, IsKeyAt}
use Rattle.iddqd_by_order.specs.Ordered.{itself}
use Rattle.iddqd_by_order.proofs.OrderedFindLemmas.{answer_at, IsEntryOf-from_table}
use Rattle.iddqd_by_order.proofs.ordered_item.entry.Goals as goal

pub entry_by-requires : goal.entry_by-requires
entry_by-requires g c =
    CanAsk-by _ _ (λ f. f ≡ closure_of c.new-asking.result) (λ f f' ix r i h e. search rules)
    (λ f ix i h.
    let live : IsLive c.args.items.now.store ix = (c.requires.each ix).0 h in
    search rules)
    _ refl

pub returns-clause-made : goal.returns-clause-made
returns-clause-made g c =
    let compare = on g.E.OrdKey.key_of g.E.OrdKey.cmp in
    let query = c.args.query in
    let comparing = g.Q.ItemRangeQuery.compare_item query in
    let s = c.args.items.now.store in
    let order = order_of c.args.table.now in
    IsEntryOf-from_table itself compare s order comparing c.requires _ _ c.new-asking.result c.entry_by.new.asking
    (on_total g.E.OrdKey.key_of g.met.E.OrdKey.total)
    (record { fits = g.met.Q.ItemRangeQuery.fits query; one_key = g.met.Q.ItemOrdQuery.one_key query })
    (Steady-by _ _ (λ f. f ≡ closure_of c.new-asking.result) (λ f f' ix r i h e. search rules) _ _
    (λ f f' ix r i h e.
    let read : IsKeyAt comparing s ix r = search (rules, i, e) in
    read.2 ∙ sym (answer_at itself compare s order comparing ix read.0 read.1))
    _ refl)
    c.entry_by.result c.entry_by.ensures.made
