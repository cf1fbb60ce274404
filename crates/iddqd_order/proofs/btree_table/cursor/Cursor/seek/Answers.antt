use Rattle.iddqd_order.proofs.Names.{[], arith, None, Askable}
use Rattle.iddqd_order.proofs.AskLemmas.{asks_none}
use Rattle.iddqd_order.proofs.CursorLemmas.{IsAt-whole, IsLeafParent-from}
use Rattle.iddqd_order.proofs.NearbyLemmas.{gap_found}
use Rattle.iddqd_order.proofs.btree_table.cursor.Cursor.seek.Goals.{then-height-gt0, else-height-gt0}
use Rattle.iddqd_order.proofs.btree_table.cursor.Cursor.seek.Goals as goal

pub returns-in_default-clause-searches : goal.returns-in_default-clause-searches
returns-in_default-clause-searches g c =
    rw c.in_default.is
    (gap_found g.F.FnMut (g.H.Reads.reading c.args.how.now) 0 (asks_none g.F.FnMut (Askable [] None) _) (omega arith)
    (λ answer s. record { within = omega arith; greater_before = λ k lt. absurd (omega arith); less_from = λ k from lt. absurd (omega arith) }))

pub seek-requires-clause-can_search : goal.seek-requires-clause-can_search
seek-requires-clause-can_search g c = rw c.in-Some.is at c.requires.can_search

pub returns : goal.returns
returns g c = record {
  searches = (
      let e = c.seek.ensures in
      let whole = (IsAt-whole _ _ c.in-Some.node _ _ _ c.in-Some.is e.path e.seeks.reaches e.leaf c.leaf_place.ensures.place).0 in
      rw (whole, c.in-Some.is) e.seeks.searches);
  stands = (
      let e = c.seek.ensures in
      record {
        at = (IsAt-whole _ _ c.in-Some.node _ _ _ c.in-Some.is e.path e.seeks.reaches e.leaf c.leaf_place.ensures.place).1;
        leaf_parent =
            IsLeafParent-from _ _ c.in-Some.node _ c.if-height-gt0.result c.in-Some.is
            (elim c.if-height-gt0.branch [
              | then-height-gt0 w ↦ rw w.result-is (w.if-height-gt0.true, e.parent)
              | else-height-gt0 w ↦ rw w.result-is tt
            ]);
      });
}

pub seek-requires-clause-unequal : goal.seek-requires-clause-unequal
seek-requires-clause-unequal g c = c.requires.unequal

pub seek-requires-clause-formed : goal.seek-requires-clause-formed
seek-requires-clause-formed g c = (rw c.in-Some.is at c.requires.tree).0

pub seek-requires-clause-levels : goal.seek-requires-clause-levels
seek-requires-clause-levels g c = (rw c.in-Some.is at c.requires.tree).2
