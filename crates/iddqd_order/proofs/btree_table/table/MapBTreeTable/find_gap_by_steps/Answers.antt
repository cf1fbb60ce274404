use Rattle.iddqd_order.proofs.Names.{◌≡◌, ◌∙◌, ◌<◌, length, slice_index, arith, refl, sym, ap, subst, None, get_or_default, order_of, bound, IsPlace}
use Rattle.iddqd_order.specs.Stepping.{IsChildAt, Narrows, high, low}
use Rattle.iddqd_order.proofs.AskLemmas.{CanAsk-each, CanAsk-again}
use Rattle.iddqd_order.proofs.DigitLemmas.{four_digits}
use Rattle.iddqd_order.proofs.GuideLemmas.{can_ask_row, guided-child, guided-end, guided-hit, guides-first, guides-more}
use Rattle.iddqd_order.proofs.IndexListLemmas.{Contains-at}
use Rattle.iddqd_order.proofs.SearchLemmas.{SearchesWithin-more, none_at_place}
use Rattle.iddqd_order.proofs.btree_table.table.MapBTreeTable.find_gap_by_steps.Goals as goal

pub loop-row-init : goal.loop-row-init
loop-row-init g c =
    let e = c.enter-node.ensures in
    record {
      node = e.node;
      levels = omega arith;
      asks = e.asks;
      led = guides-more g.F.FnMut (λ r. r) (order_of c.args.self.now) (omega arith)
          (guides-first g.F.FnMut (λ r. r) (order_of c.args.self.now) _ _ _ e.low e.high);
    }

pub search-requires-clause-each : goal.search-requires-clause-each
search-requires-clause-each g c =
    let can = can_ask_row g.F.FnMut (λ r. r) (order_of c.args.self.now) c.loop-row.invariant.led
    c.in-Some.ensures.stands c.requires in
    CanAsk-each g.F.FnMut _ can

pub search-requires-clause-again : goal.search-requires-clause-again
search-requires-clause-again g c =
    let can = can_ask_row g.F.FnMut (λ r. r) (order_of c.args.self.now) c.loop-row.invariant.led
    c.in-Some.ensures.stands c.requires in
    CanAsk-again g.F.FnMut _ can

pub returns-in-Ok : goal.returns-in-Ok
returns-in-Ok g c =
    let xs = order_of c.args.self.now in let row = c.in-Some.row.now in let i = c.in-Ok.hit in
    let s = c.in-Some.ensures.stands in
    let few = c.in-Some.ensures.few in
    let four = four_digits (length row) (omega arith) in
    let v = c.loop-row.invariant in let asks = v.asks in let levels = v.levels in
    let total = SearchesWithin-more g.F.FnMut (λ r. r) None {l = bound (length xs)} (omega arith)
    (guided-hit g.F.FnMut (λ r. r) xs v.led s i c.in-Ok.ensures) in
    let lt : i < length row = c.in-Ok.ensures.found in
    let read : slice_index row i ≡ c.index-row-hit.result =
    get_or_default row i 0 c.index-row-hit.result lt ∙ sym c.index-row-hit.is in
    let is : c.index-row-hit.result ≡ slice_index xs (s.place i) = sym read ∙ sym (s.index i lt) in (
      total.asked,
      record {
        stored = Contains-at xs (s.place i) c.index-row-hit.result total.found is;
        hit = λ answer steady. ap answer is ∙ total.hit answer steady;
      },
    )

pub returns-then-level-eq0 : goal.returns-then-level-eq0
returns-then-level-eq0 g c =
    let xs = order_of c.args.self.now in let row = c.in-Some.row.now in
    let few = c.in-Some.ensures.few in
    let four = four_digits (length row) (omega arith) in
    let v = c.loop-row.invariant in let asks = v.asks in let levels = v.levels in
    let level = c.level.ensures in let zero = c.if-level-eq0.true in
    let total = SearchesWithin-more g.F.FnMut (λ r. r) None {l = bound (length xs)} (omega arith)
    (guided-end g.F.FnMut (λ r. r) xs v.led (c.in-Some.ensures.leaf (omega arith)) c.in-Err.ensures) in
    let gap = c.in-Some-gap_in.ensures in (
      total.asked,
      record {
        fits = gap.fits;
        within = gap.within;
        place = λ answer rises. subst (IsPlace answer xs) (sym gap.place) (total.place answer rises);
        miss = λ answer rises. none_at_place answer _ _ (total.place answer rises);
      },
    )

pub loop-row-preserved : goal.loop-row-preserved
loop-row-preserved g c =
    let t = c.args.self.now in let xs = order_of t in let row = c.in-Some.row.now in
    let few = c.in-Some.ensures.few in
    let four = four_digits (length row) (omega arith) in
    let v = c.loop-row.invariant in let levels = v.levels in
    let child : IsChildAt t c.loop-row.node c.in-Err.place c.down.new.node = c.if-not-down.ensures.went refl in
    let up = child.level in
    let narrows = subst (λ z. Narrows xs z (low t c.loop-row.node) (high t c.loop-row.node) c.in-Err.place
    (low t c.down.new.node) (high t c.down.new.node)) (sym c.in-Some.ensures.row) child.narrows in
    record {
      node = child.is_node;
      levels = omega arith;
      asks = v.asks;
      led = guides-more g.F.FnMut (λ r. r) xs (omega arith)
          (guided-child g.F.FnMut (λ r. r) xs v.led c.in-Some.ensures.stands c.in-Err.ensures narrows);
    }
