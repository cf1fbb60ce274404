use Rattle.iddqd_order_reference.proofs.Names.{◌∙◌, eqb-true, ℕ, Some, sym, subst, arith, Contains, Askable}
use Rattle.iddqd_order_reference.specs.OrderedTable.{order_of}
use Rattle.iddqd_order.proofs.AskLemmas.{asks_more, asks_none}
use Rattle.iddqd_order.proofs.SearchLemmas.{met_where_stored}
use Rattle.iddqd_order_reference.proofs.ordered_table_reference.OrderedTable.find_place.Goals as goal

pub returns-then-eq-clause-asked : goal.returns-then-eq-clause-asked
returns-then-eq-clause-asked g c =
    asks_more g.F.FnMut _ (omega arith) (asks_none g.F.FnMut (Askable (order_of c.args.self.now) (Some c.args.ix)) _)

pub returns-then-eq-clause-rising : goal.returns-then-eq-clause-rising
returns-then-eq-clause-rising g c answer s held =
    absurd (c.stores_no_sentinel.ensures (subst (λ (ix : ℕ). Contains (order_of c.args.self.now) ix) (eqb-true _ _ (sym c.eq.ensures ∙ c.if-eq.true)) held))

pub returns-clause-rising : goal.returns-clause-rising
returns-clause-rising g c answer s held = c.ok.ensures.variant ∙ met_where_stored c.search_in.result answer c.search_in.ensures s held
