use Rattle.std.proofs.Common.{rules, ◌≡◌, ◌∙◌, refl, sym}
use Rattle.iddqd_order.specs.Asking.{closure_of}
use Rattle.iddqd_order.specs.MapBTreeTable.{order_of}
use Rattle.iddqd_order.proofs.AskLemmas.{CanAsk-by, Steady-by}
use Rattle.iddqd_keys.specs.Scan.{IsLive, IsKeyAt}
use Rattle.iddqd_by_order.proofs.OrderedFindLemmas.{IsQuery-lawful, answer_at, IsEntryOf-from_table}
use Rattle.iddqd_by_order.proofs.ordered.entry.Goals as goal

pub entry_by-requires : goal.entry_by-requires
entry_by-requires g c =
    CanAsk-by _ _ (λ f. f ≡ closure_of c.new-asking.result) (λ f f' ix r i h e. search rules)
    (λ f ix i h.
    let live : IsLive c.args.items.now.store ix = (c.requires.each ix).0 h in
    search rules)
    _ refl

pub returns-clause-made : goal.returns-clause-made
returns-clause-made g c =
    let key_of = g.E.KeyOf.key_of in
    let compare = g.E.Key.Ord.cmp in
    let query = c.args.query.now in
    let comparing = g.Q.Comparable.compare query in
    let laws = g.met.Q.Comparable in
    let s = c.args.items.now.store in
    let order = order_of c.args.table.now in
    IsEntryOf-from_table key_of compare s order comparing c.requires _ _ c.new-asking.result c.entry_by.new.asking g.met.E.Key.Ord.total
    (IsQuery-lawful compare _ (laws.less_after query) (laws.greater_before query) (laws.equal_keys query) (laws.equal_where_equivalent query) (laws.as_equivalent query))
    (Steady-by _ _ (λ f. f ≡ closure_of c.new-asking.result) (λ f f' ix r i h e. search rules) _ _
    (λ f f' ix r i h e.
    let read : IsKeyAt (λ item. comparing (key_of item)) s ix r = search (rules, i, e) in
    read.2 ∙ sym (answer_at key_of compare s order comparing ix read.0 read.1))
    _ refl)
    c.entry_by.result c.entry_by.ensures.made
