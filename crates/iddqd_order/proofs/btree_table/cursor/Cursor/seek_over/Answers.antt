use Rattle.iddqd_order.proofs.Names.{true≢false, ◌∙◌, refl, sym, arith, At_once}
use Rattle.std.proofs.lemmas.Bool.{false≢true}
use Rattle.iddqd_order.proofs.IndexListLemmas.{Contains-at}
use Rattle.iddqd_order.proofs.NearbyLemmas.{told, advances, arrives-here, arrives-end}
use Rattle.iddqd_order.proofs.SearchLemmas.{none-sought}
use Rattle.iddqd_order.proofs.btree_table.cursor.Cursor.seek_over.Goals as goal

pub next_leaf-requires-clause-tree : goal.next_leaf-requires-clause-tree
next_leaf-requires-clause-tree g c = c.requires.tree

pub next_leaf-requires-clause-stands : goal.next_leaf-requires-clause-stands
next_leaf-requires-clause-stands g c = c.requires.stands

pub next_leaf-requires-clause-end : goal.next_leaf-requires-clause-end
next_leaf-requires-clause-end g c = c.requires.end

pub returns-in_default : goal.returns-in_default
returns-in_default g c =
    let last = c.in_default.ensures.next in
    let same = last.1 in
    record {
      stands = c.in_default.ensures.stands;
      ahead = omega arith;
      advances = λ yes. absurd (false≢true yes);
      arrives = λ stays. rw last.1 (arrives-end g.F.FnMut (g.H.Reads.reading c.args.how.now) _ last.0);
    }

pub compare-requires-clause-any : goal.compare-requires-clause-any
compare-requires-clause-any g c =
    let b = c.in-Some.ensures.next.0 in λ none. c.requires.can_search.at _ _ At_once _ (Contains-at _ _ _ b.0 b.1)

pub compare-requires-clause-other : goal.compare-requires-clause-other
compare-requires-clause-other g c ix some = none-sought ix some

pub returns-then-is_gt : goal.returns-then-is_gt
returns-then-is_gt g c =
    let read = g.H.Reads.reading c.args.how.now in
    let b = c.in-Some.ensures.next.0 in let next = c.in-Some.ensures.next.1 in
    record {
      stands = c.in-Some.ensures.stands;
      ahead = omega arith;
      advances = λ gt.
          advances g.F.FnMut read _ _ c.compare.result b.0 (omega arith) (sym c.is_gt.ensures ∙ c.if-is_gt.true)
          (c.compare.ensures.asks _ (Contains-at _ _ _ b.0 b.1))
          (told g.F.FnMut read _ _ _ c.compare.result _ b c.compare.ensures.steady);
      arrives = λ stays. absurd (true≢false stays);
    }

pub returns : goal.returns
returns g c =
    let read = g.H.Reads.reading c.args.how.now in
    let b = c.in-Some.ensures.next.0 in
    let here = c.copied-here.ensures in
    record {
      stands = rw here c.requires.stands;
      ahead = rw here (omega arith);
      advances = λ yes. absurd (false≢true yes);
      arrives = λ stays.
          rw here (arrives-here g.F.FnMut read _ c.compare.result b.0 (sym c.is_gt.ensures ∙ c.if-is_gt.false) (c.compare.ensures.unequal refl c.requires.unequal)
          (c.compare.ensures.asks _ (Contains-at _ _ _ b.0 b.1))
          (told g.F.FnMut read _ _ _ c.compare.result _ b c.compare.ensures.steady));
    }
