use Rattle.std.proofs.Common.{rules}
use Rattle.std.proofs.Common.{arith}
use Rattle.std.proofs.lemmas.Grind.{common_steps}
use Rattle.iddqd_order.proofs.Names.{arith, ◌≡◌, refl, sym, ◌∙◌, ap, Ordering, Less, Equal, Greater, eqb-false, At_once, nat_cmp, ordering_then, None, Some, Askable}
use Rattle.iddqd_order.proofs.AskLemmas.{asks_one, asks_none, asks_more}
use Rattle.iddqd_order.proofs.btree_table.search.compare.Goals as goal

pub returns-in-None : goal.returns-in-None
returns-in-None g c = record {
  asks = λ xs h. rw c.in-None.is (asks_one g.F.FnMut (Askable xs None) h c.ask.ensures.answered c.ask.ensures.count);
  steady = λ xs answer h s.
      let told = (rw c.in-None.is at s).at 0 _ At_once _ h _ _ c.ask.ensures.answered in
      rw c.in-None.is (c.read.ensures ∙ told);
  itself = search rules;
  unequal = search rules;
}

pub returns-then-eq : goal.returns-then-eq
returns-then-eq g c = record {
  asks = λ xs h. asks_more g.F.FnMut _ (omega arith) (asks_none g.F.FnMut (Askable xs c.args.sought.now) _);
  steady = search rules;
  unequal = search rules;
  itself = search rules;
}

-- where an answer isn't Equal, the indexes say nothing
then-other : (r x : Ordering) → (r ≡ Equal → ⊥) → r ≡ ordering_then r x
then-other Less x n = refl
then-other Equal x n = absurd (n refl)
then-other Greater x n = refl

pub returns-in-Equal : goal.returns-in-Equal
returns-in-Equal g c = record {
  steady = λ xs answer h s.
      let apart = sym c.eq.ensures ∙ c.if-eq.false in
      let told = (rw c.in-Some.is at s).at 0 _ At_once _ (h, eqb-false _ _ apart) _ _ c.ask-else-eq.ensures.answered in
      rw (c.in-Some.is, apart) (c.cmp.ensures ∙ ap (λ r. ordering_then r (nat_cmp c.in-Some.ix c.args.at)) (sym c.in-Equal.is ∙ c.read-else-eq.ensures ∙ told));
  asks = λ xs h. rw c.in-Some.is (asks_one g.F.FnMut (Askable xs (Some _)) (h, eqb-false _ _ (sym c.eq.ensures ∙ c.if-eq.false)) c.ask-else-eq.ensures.answered c.ask-else-eq.ensures.count);
  itself = grind (arith, common_steps);
  unequal = search rules;
}

pub returns-in_default : goal.returns-in_default
returns-in_default g c = record {
  asks = λ xs h. rw c.in-Some.is (asks_one g.F.FnMut (Askable xs (Some _)) (h, eqb-false _ _ (sym c.eq.ensures ∙ c.if-eq.false)) c.ask-else-eq.ensures.answered c.ask-else-eq.ensures.count);
  steady = λ xs answer h s.
      let apart = sym c.eq.ensures ∙ c.if-eq.false in
      let told = (rw c.in-Some.is at s).at 0 _ At_once _ (h, eqb-false _ _ apart) _ _ c.ask-else-eq.ensures.answered in
      rw (c.in-Some.is, apart) (then-other _ (nat_cmp c.in-Some.ix c.args.at) c.in_default.not-Equal ∙ ap (λ r. ordering_then r (nat_cmp c.in-Some.ix c.args.at)) (c.read-else-eq.ensures ∙ told));
  unequal = omega arith;
  itself = omega arith;
}
