use Rattle.std.proofs.Common.{rules, ◌≡◌, ◌∙◌, Some, refl, sym, subst}
use Rattle.std.specs.List.{Contains}
use Rattle.iddqd_order.specs.Asking.{closure_of}
use Rattle.iddqd_order.specs.Gap.{gap_place}
use Rattle.iddqd_order.specs.MapBTreeTable.{order_of}
use Rattle.iddqd_order.specs.Search.{IsPlace, IsRising, with_ties}
use Rattle.iddqd_order.proofs.AskLemmas.{CanAsk-by, Steady-by}
use Rattle.iddqd_keys.specs.Scan.{IsLive, IsKeyAt}
use Rattle.iddqd_by_order.proofs.OrderedFindLemmas.{answer_at}
use Rattle.iddqd_by_order.proofs.OrderedHoldsLemmas.{next_absent}
use Rattle.iddqd_ord_map.specs.ByOrderMulti.{item_answer}
use Rattle.iddqd_ord_map.proofs.OrderedMoveLemmas.{IsRising-next}
use Rattle.iddqd_ord_map.proofs.by_order_multi.place_of.Goals as goal

pub find_own_gap_by-requires-clause-absent : goal.find_own_gap_by-requires-clause-absent
find_own_gap_by-requires-clause-absent g c = λ here.
    next_absent c.args.items.now.store (order_of c.args.table.now) c.requires.sorted.holds c.requires.valid (subst (Contains (order_of c.args.table.now)) c.requires.next here)

pub find_own_gap_by-requires-clause-can_ask : goal.find_own_gap_by-requires-clause-can_ask
find_own_gap_by-requires-clause-can_ask g c =
    CanAsk-by _ _ (λ f. f ≡ closure_of c.new-asking.result) (λ f f' ix r i h e. search rules)
    (λ f ix i h.
    let live : IsLive c.args.items.now.store ix = (c.requires.sorted.holds.each ix).0 h.0 in
    search rules)
    _ refl

pub returns : goal.returns
returns g c =
    let key_of = g.E.OrdKey.key_of in
    let compare = g.E.OrdKey.cmp in
    let item = c.args.item.now in
    let s = c.args.items.now.store in
    let order = order_of c.args.table.now in
    let answer = item_answer key_of compare s item in
    let did = c.find_own_gap_by.ensures in
    let rising = IsRising-next key_of compare g.met.E.OrdKey.total s order c.requires.sorted item c.requires.valid in
    let is_place = did.place answer (record {
      steady = Steady-by _ _ (λ f. f ≡ closure_of c.new-asking.result) (λ f f' ix r i h e. search rules) _ _
          (λ f f' ix r i h e.
          let read : IsKeyAt (λ other. compare (key_of item) (key_of other)) s ix r = search (rules, i, e) in
          read.2 ∙ sym (answer_at key_of compare s order (compare (key_of item)) ix read.0 read.1))
          _ refl;
      rising = subst (λ ix. IsRising (with_ties (Some ix) answer) order) (sym c.requires.next) rising;
    }) in
    record {
      fits = did.fits;
      within = did.within;
      is_place = subst (λ ix. IsPlace (with_ties (Some ix) answer) order (gap_place c.args.table.now c.find_own_gap_by.result)) c.requires.next is_place;
    }
