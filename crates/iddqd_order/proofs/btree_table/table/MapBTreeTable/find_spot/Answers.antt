use Rattle.std.proofs.lemmas.Bool.{false≢true}
use Rattle.std.proofs.Common.{rules}
use Rattle.std.proofs.Common.{arith}
use Rattle.std.proofs.lemmas.Grind.{common_steps}
use Rattle.iddqd_order.proofs.Names.{IsIndexList, subst, ap, Some, refl, sym, eqb-true, ◌∙◌, arith, Askable, order_of}
use Rattle.iddqd_order.proofs.AskLemmas.{asks_more, asks_none}
use Rattle.iddqd_order.proofs.IndexListLemmas.{Contains-at, sentinel-absent}
use Rattle.iddqd_order.proofs.SearchLemmas.{met_where_stored}
use Rattle.iddqd_order.proofs.TableLemmas.{index_list}
use Rattle.iddqd_order.proofs.btree_table.table.MapBTreeTable.find_spot.Goals.{then-self-eq0-via-then-self-eq0, then-self-eq0-via-else-self-eq0+then-eq}
use Rattle.iddqd_order.proofs.btree_table.table.MapBTreeTable.find_spot.Goals as goal

pub returns-then-self-eq0 : goal.returns-then-self-eq0
unfolding order_of
returns-then-self-eq0 g c = record {
  rising = λ answer s held.
      let here = rw (← c.self.view_is) at held in
      let inside = c.self.invariant in
      elim c.then-self-eq0.branch [
        | then-self-eq0-via-then-self-eq0 w ↦ (let none = w.if-self-eq0.true in let lt = here.1 in let counted = inside.counted in absurd (omega arith))
        | then-self-eq0-via-else-self-eq0+then-eq w ↦ absurd (sentinel-absent _ (index_list _ _ _ inside) (rw (eqb-true _ _ (sym w.eq.ensures ∙ w.if-eq.true)) at here))
      ];
  asked = asks_more g.F.FnMut _ (omega arith) (asks_none g.F.FnMut (Askable (order_of c.args.self.now) (Some c.args.ix)) _);
  indexes = search rules;
  missing = search rules;
  unasked = search rules;
  there = search rules;
  stored = λ x. absurd (false≢true x);
}

pub returns-in-Ok : goal.returns-in-Ok
unfolding order_of
returns-in-Ok g c = record {
  unasked = grind (arith, common_steps);
  there = (
      let e = c.in-Ok.ensures.ends in
      (e.holds, e.searches.itself c.args.ix refl));
  stored = λ is.
      let s = c.in-Ok.ensures.ends.searches in
      Contains-at _ _ _ s.found (sym (s.itself c.args.ix refl));
  indexes = subst IsIndexList (ap order_of c.self.view_is) (index_list _ _ _ c.self.invariant);
  rising = λ answer steady held. refl;
  asked = c.in-Ok.ensures.ends.searches.asked;
  missing = search rules;
}

pub returns-in-Err : goal.returns-in-Err
unfolding order_of
returns-in-Err g c =
    let e = c.in-Err.ensures.ends in
    record {
      there = tt;
      stored = λ some. absurd (false≢true some);
      asked = e.searches.asked;
      missing = λ same. refl;
      unasked = grind (arith, common_steps);
      indexes = subst IsIndexList (ap order_of c.self.view_is) (index_list _ _ _ c.self.invariant);
      rising = λ answer steady held. met_where_stored _ answer e.searches steady held;
    }
