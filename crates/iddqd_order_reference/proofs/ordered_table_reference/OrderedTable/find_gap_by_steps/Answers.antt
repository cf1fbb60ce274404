use Rattle.std.proofs.Common.{◌+◌, ◌<◌, arith, slice_index}
use Rattle.std.proofs.lemmas.List.{get_or_default}
use Rattle.iddqd_order_reference.proofs.Names.{length, CanSearch, Err, None, Ok, ◌∙◌, ◌≡◌, ap, subst, sym}
use Rattle.iddqd_order.specs.Search.{IsPlace, Searches}
use Rattle.iddqd_order.proofs.AskLemmas.{CanAsk-each, CanAsk-again}
use Rattle.iddqd_order.proofs.IndexListLemmas.{Contains-at}
use Rattle.iddqd_order.proofs.SearchLemmas.{none_at_place}
use Rattle.iddqd_order_reference.specs.OrderedTable.{order_of}
use Rattle.iddqd_order_reference.proofs.OrderedTableLemmas.{Searches-from_halves}
use Rattle.iddqd_order_reference.proofs.ordered_table_reference.OrderedTable.find_gap_by_steps.Goals as goal

pub search-requires-clause-each : goal.search-requires-clause-each
search-requires-clause-each g c =
    let can = subst (λ xs. CanSearch g.F.FnMut xs None c.args.asking.now) (sym c.in-Some.ensures.row) c.requires in
    CanAsk-each g.F.FnMut _ can

pub search-requires-clause-again : goal.search-requires-clause-again
search-requires-clause-again g c =
    let can = subst (λ xs. CanSearch g.F.FnMut xs None c.args.asking.now) (sym c.in-Some.ensures.row) c.requires in
    CanAsk-again g.F.FnMut _ can

pub returns-in-Ok : goal.returns-in-Ok
returns-in-Ok g c =
    let xs = order_of c.args.self.now in let row = c.in-Some.row.now in let i = c.in-Ok.hit in
    let whole = c.in-Some.ensures.row in
    let s = subst (λ z. Searches g.F.FnMut (λ r. r) z None c.args.asking.now (Ok i) c.search.new.asking) whole (Searches-from_halves g.F.FnMut (λ r. r) row None _ _ _ c.in-Ok.ensures) in
    let lt : i < length row = c.in-Ok.ensures.found in
    let is : c.index-row-hit.result ≡ slice_index xs i = c.index-row-hit.is ∙ get_or_default row i c.index-row-hit.result 0 lt ∙ ap (λ z. slice_index z i) whole in
    (s.asked, record { stored = Contains-at xs i c.index-row-hit.result s.found is; hit = λ answer steady. ap answer is ∙ s.hit answer steady })

pub returns-in-Some-gap_in : goal.returns-in-Some-gap_in
returns-in-Some-gap_in g c =
    let xs = order_of c.args.self.now in let row = c.in-Some.row.now in let i = c.in-Err.place in
    let s = subst (λ z. Searches g.F.FnMut (λ r. r) z None c.args.asking.now (Err i) c.search.new.asking) c.in-Some.ensures.row (Searches-from_halves g.F.FnMut (λ r. r) row None _ _ _ c.in-Err.ensures) in
    let gap = c.in-Some-gap_in.ensures in
    let at = gap.place ∙ (let same : 0 + i ≡ i = omega arith in same) in (
      s.asked,
      record {
        fits = gap.fits;
        within = gap.within;
        place = λ answer rises. subst (IsPlace answer xs) (sym at) (s.place answer rises);
        miss = λ answer rises. none_at_place answer _ _ (s.place answer rises);
      },
    )
