use Rattle.std.proofs.Common.{rules, ◌≡◌, ◌∙◌, refl, ap, sym}
use Rattle.iddqd_order.specs.Asking.{closure_of}
use Rattle.iddqd_order.specs.MapBTreeTable.{order_of}
use Rattle.iddqd_order.proofs.AskLemmas.{CanAsk-by, Steady-by}
use Rattle.iddqd_keys.specs.Scan.{IsLive, IsKeyAt}
use Rattle.iddqd_by_order.proofs.OrderedFindLemmas.{answer_at}
use Rattle.iddqd_map.specs.Ranges.{itself}
use Rattle.iddqd_ord_map.proofs.OrderedMoveLemmas.{IsSortedScan-put_in}
use Rattle.iddqd_ord_map.proofs.ordered_move.relocate.Goals as goal

pub move_index_reading-requires-clause-stored : goal.move_index_reading-requires-clause-stored
move_index_reading-requires-clause-stored g c = (c.requires.sorted.holds.each c.args.ix).1 c.requires.live

pub move_index_reading-requires-clause-can_search : goal.move_index_reading-requires-clause-can_search
move_index_reading-requires-clause-can_search g c =
    CanAsk-by _ _ (λ f. f ≡ closure_of c.new-asking.result) (λ f f' ix r i h e. search rules)
    (λ f ix i h.
    let live : IsLive c.args.items.now.store ix = (c.requires.sorted.holds.each ix).0 h.0 in
    search rules)
    _ refl

pub returns-clause-moved : goal.returns-clause-moved
returns-clause-moved g c =
    let key_of = g.E.OrdKey.key_of in
    let compare = g.E.OrdKey.cmp in
    let s = c.args.items.now.store in
    let order = order_of c.args.table.now in
    let item = c.args.item.now in
    let (was, live, same) = c.key_at.ensures in
    IsSortedScan-put_in key_of compare g.met.E.OrdKey.total s order c.requires.sorted c.args.ix item was live _ _
    order c.args.ix c.new-asking.result (order_of c.move_index_reading.new.self) _ refl refl
    (Steady-by _ _ (λ f. f ≡ closure_of c.new-asking.result) (λ f f' ix r i h e. search rules) _ _
    (λ f f' ix r i h e.
    let read : IsKeyAt itself s ix r.now = search (rules, i, e) in
    ap (λ other. compare (key_of item) (key_of other)) read.2 ∙ sym (answer_at key_of compare s order (compare (key_of item)) ix read.0 read.1))
    _ refl)
    c.move_index_reading.ensures.moved refl
