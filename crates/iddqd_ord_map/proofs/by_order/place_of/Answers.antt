use Rattle.std.proofs.Common.{rules, ◌≡◌, ◌∙◌, refl, sym}
use Rattle.iddqd_order.specs.Asking.{closure_of}
use Rattle.iddqd_order.specs.MapBTreeTable.{order_of}
use Rattle.iddqd_order.proofs.AskLemmas.{CanAsk-by, Steady-by}
use Rattle.iddqd_keys.specs.Scan.{IsLive, IsKeyAt}
use Rattle.iddqd_by_order.proofs.OrderedFindLemmas.{answer_at}
use Rattle.iddqd_ord_map.proofs.ByOrderLemmas.{LooksPlaceUp-found}
use Rattle.iddqd_ord_map.proofs.by_order.place_of.Goals as goal

pub find_gap_by-requires : goal.find_gap_by-requires
find_gap_by-requires g c =
    CanAsk-by _ _ (λ f. f ≡ closure_of c.new-asking.result) (λ f f' ix r i h e. search rules)
    (λ f ix i h.
    let live : IsLive c.args.items.now.store ix = (c.requires.held.each ix).0 h in
    search rules)
    _ refl

pub returns : goal.returns
returns g c =
    let key_of = g.E.OrdKey.key_of in
    let compare = g.E.OrdKey.cmp in
    let item = c.args.item.now in
    let s = c.args.items.now.store in
    let order = order_of c.args.table.now in
    LooksPlaceUp-found key_of compare g.met.E.OrdKey.total s c.args.table.now c.requires item _ _ c.new-asking.result c.find_gap_by.new.asking
    (Steady-by _ _ (λ f. f ≡ closure_of c.new-asking.result) (λ f f' ix r i h e. search rules) _ _
    (λ f f' ix r i h e.
    let read : IsKeyAt (λ other. compare (key_of item) (key_of other)) s ix r = search (rules, i, e) in
    read.2 ∙ sym (answer_at key_of compare s order (compare (key_of item)) ix read.0 read.1))
    _ refl)
    c.find_gap_by.result c.find_gap_by.ensures
