use Rattle.iddqd_order.proofs.Names.{◌∙◌, sym, None, Askable, in_order}
use Rattle.iddqd_order.proofs.AskLemmas.{CanAsk-later}
use Rattle.iddqd_order.proofs.NearbyLemmas.{end-near, end-before, end-behind}
use Rattle.iddqd_order.proofs.btree_table.cursor.Cursor.seek_end.Goals as goal

pub seek_near-requires-clause-tree : goal.seek_near-requires-clause-tree
seek_near-requires-clause-tree g c = c.requires.tree

pub seek_near-requires-clause-stands : goal.seek_near-requires-clause-stands
seek_near-requires-clause-stands g c = rw c.copied-near.ensures c.requires.stands

pub seek_near-requires-clause-some : goal.seek_near-requires-clause-some
seek_near-requires-clause-some g c = c.leaves_near.ensures.some

pub seek_near-requires-clause-unequal : goal.seek_near-requires-clause-unequal
seek_near-requires-clause-unequal g c = c.requires.unequal

pub seek_near-requires-clause-can_search : goal.seek_near-requires-clause-can_search
seek_near-requires-clause-can_search g c = c.requires.can_search

pub returns-then-seek_near : goal.returns-then-seek_near
returns-then-seek_near g c =
    let e = c.seek_near.ensures in let l = c.leaves_near.ensures in
    record {
      stands = e.stands;
      end =
          rw c.copied-near.ensures at (end-near g.F.FnMut (g.H.Reads.reading c.args.how.now) c.args.root.now c.args.height _ _ _ c.requires.tree l.few l.most
          (e.some c.if-seek_near.true) e.ahead (e.found c.if-seek_near.true));
    }

pub seek-end-requires-clause-tree : goal.seek-end-requires-clause-tree
seek-end-requires-clause-tree g c = c.requires.tree

pub seek-end-requires-clause-unequal : goal.seek-end-requires-clause-unequal
seek-end-requires-clause-unequal g c = c.requires.unequal

pub seek-end-requires-clause-can_search : goal.seek-end-requires-clause-can_search
seek-end-requires-clause-can_search g c = CanAsk-later g.F.FnMut (Askable (in_order c.args.root.now c.args.height) None) (c.seek_near.ensures.missed c.if-seek_near.false).after c.requires.can_search

pub compare-requires-clause-tree : goal.compare-requires-clause-tree
compare-requires-clause-tree g c = c.requires.tree

pub compare-requires-clause-stands : goal.compare-requires-clause-stands
compare-requires-clause-stands g c = c.seek-end.ensures.stands

pub compare-requires-clause-other_stands : goal.compare-requires-clause-other_stands
compare-requires-clause-other_stands g c = c.requires.stands

pub returns-then-is_lt : goal.returns-then-is_lt
returns-then-is_lt g c =
    let l = c.leaves_near.ensures in
    record {
      stands = rw c.copied.ensures c.requires.stands;
      end =
          rw c.copied.ensures (end-before g.F.FnMut (g.H.Reads.reading c.args.how.now) c.args.root.now c.args.height _ _ _ _ c.requires.tree l.few l.most
          (c.seek_near.ensures.missed c.if-seek_near.false) c.seek-end.ensures.searches c.compare.ensures
          (sym c.is_lt.ensures ∙ c.if-is_lt.true));
    }

pub returns : goal.returns
returns g c =
    let l = c.leaves_near.ensures in
    record {
      stands = c.seek-end.ensures.stands;
      end =
          end-behind g.F.FnMut (g.H.Reads.reading c.args.how.now) c.args.root.now c.args.height _ _ _ _ c.requires.tree l.few l.most
          (c.seek_near.ensures.missed c.if-seek_near.false) c.seek-end.ensures.searches c.compare.ensures
          (sym c.is_lt.ensures ∙ c.if-is_lt.false);
    }
