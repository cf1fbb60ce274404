use Rattle.iddqd_order_reference.proofs.Names.{sym, ◌∙◌, ap, subst, CanSearch}
use Rattle.iddqd_order_reference.specs.OrderedTable.{order_of}
use Rattle.iddqd_order.specs.Search.{Searches}
use Rattle.iddqd_order.proofs.AskLemmas.{CanAsk-each, CanAsk-again}
use Rattle.iddqd_order_reference.proofs.OrderedTableLemmas.{Searches-from_halves}
use Rattle.iddqd_order_reference.proofs.ordered_table_reference.OrderedTable.search_in.Goals as goal

pub search-requires-clause-each : goal.search-requires-clause-each
unfolding order_of
search-requires-clause-each g c =
    let can =
    subst (λ xs. CanSearch g.F.FnMut xs c.args.sought.now c.args.asking.now) (sym (c.deref.ensures.value ∙ ap order_of c.self.view_is)) c.requires in
    CanAsk-each g.F.FnMut _ can

pub search-requires-clause-again : goal.search-requires-clause-again
unfolding order_of
search-requires-clause-again g c =
    let can =
    subst (λ xs. CanSearch g.F.FnMut xs c.args.sought.now c.args.asking.now) (sym (c.deref.ensures.value ∙ ap order_of c.self.view_is)) c.requires in
    CanAsk-again g.F.FnMut _ can

pub returns : goal.returns
unfolding order_of
returns g c =
    subst (λ xs. Searches g.F.FnMut (g.H.Reads.reading c.args.how.now) xs c.args.sought.now c.args.asking.now c.search.result c.search.new.asking) (c.deref.ensures.value ∙ ap order_of c.self.view_is)
    (Searches-from_halves g.F.FnMut (g.H.Reads.reading c.args.how.now) _ _ _ _ _ c.search.ensures)
