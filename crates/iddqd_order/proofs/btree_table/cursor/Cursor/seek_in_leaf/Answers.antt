use Rattle.iddqd_order.proofs.Names.{◌≡◌, ◌∙◌, ◌<◌, ◌+◌, ◌-◌, ◌≤◌, length, refl, sym, arith, get_or_default, drop, length-take, place_in, to_gap, At_once, true≢false}
use Rattle.std.proofs.lemmas.Bool.{false≢true}
use Rattle.iddqd_order.proofs.AskLemmas.{CanAsk-each, CanAsk-again}
use Rattle.iddqd_order.proofs.CursorLemmas.{IsAt-moved}
use Rattle.iddqd_order.proofs.IndexListLemmas.{Contains-at}
use Rattle.iddqd_order.proofs.NearbyLemmas.{advances, advances-then, arrives-in_leaf, can_search-part, leaf-index, stays, told}
use Rattle.iddqd_order.proofs.SearchLemmas.{none-sought}
use Rattle.iddqd_order.proofs.btree_table.cursor.Cursor.seek_in_leaf.Goals as goal

pub returns-then-self : goal.returns-then-self
returns-then-self g c = record {
  stands = c.requires.stands;
  ahead = omega arith;
  arrives = λ arrived. absurd (false≢true arrived);
  goes_on = λ passed. stays g.F.FnMut (g.H.Reads.reading c.args.how.now) _;
  end = λ passed. c.if-self.true;
}

pub compare-requires-clause-any : goal.compare-requires-clause-any
compare-requires-clause-any g c =
    let more : c.args.self.now.at < length c.args.self.now.row.now =
    (let ne = c.if-self.false in let within = c.requires.stands.at.within in omega arith) in
    let last = length c.args.self.now.row.now - 1 in
    let lt : last < length c.args.self.now.row.now = omega arith in
    let is = leaf-index _ _ last _ _ _ c.requires.tree c.requires.stands.at lt in λ none. c.requires.can_search.at _ _ At_once _ (Contains-at _ _ _ is.1.0 (get_or_default _ _ c.index-self-last.result 0 lt ∙ is.1.1))

pub compare-requires-clause-other : goal.compare-requires-clause-other
compare-requires-clause-other g c ix some = none-sought ix some

pub returns-then-is_gt : goal.returns-then-is_gt
returns-then-is_gt g c =
    let more : c.args.self.now.at < length c.args.self.now.row.now =
    (let ne = c.if-self.false in let within = c.requires.stands.at.within in omega arith) in
    let last = length c.args.self.now.row.now - 1 in
    let lt : last < length c.args.self.now.row.now = omega arith in
    let is = leaf-index _ _ last _ _ _ c.requires.tree c.requires.stands.at lt in
    let moved = IsAt-moved _ _ (last + 1) _ _ _ c.requires.tree c.requires.stands.at (omega arith) in
    let there = moved.1 in
    record {
      stands = record { at = moved.0; leaf_parent = c.requires.stands.leaf_parent };
      ahead = omega arith;
      arrives = λ arrived. absurd (false≢true arrived);
      goes_on = λ passed limit start d.
          let e = is.0 in
          let ix = get_or_default _ _ c.index-self-last.result 0 lt ∙ is.1.1 in
          let read = g.H.Reads.reading c.args.how.now in
          advances-then g.F.FnMut read d (advances g.F.FnMut read _ _ c.compare.result is.1.0 (omega arith) (sym c.is_gt.ensures ∙ c.if-is_gt.true)
          (c.compare.ensures.asks _ (Contains-at _ _ _ is.1.0 ix))
          (told g.F.FnMut read _ _ _ c.compare.result _ (is.1.0, ix) c.compare.ensures.steady));
      end = λ passed. omega arith;
    }

pub search-requires-clause-each : goal.search-requires-clause-each
search-requires-clause-each g c =
    let more : c.args.self.now.at < length c.args.self.now.row.now =
    (let ne = c.if-self.false in let within = c.requires.stands.at.within in omega arith) in
    let last = length c.args.self.now.row.now - 1 in
    let lt : last < length c.args.self.now.row.now = omega arith in
    let is = leaf-index _ _ last _ _ _ c.requires.tree c.requires.stands.at lt in
    let ix = get_or_default _ _ c.index-self-last.result 0 lt ∙ is.1.1 in
    let can =
    can_search-part g.F.FnMut (g.H.Reads.reading c.args.how.now) _ _ last _ _ _ c.requires.tree c.requires.stands.at (omega arith) lt
    (c.compare.ensures.asks _ (Contains-at _ _ _ is.1.0 ix)) c.requires.can_search in CanAsk-each g.F.FnMut _ can

pub search-requires-clause-again : goal.search-requires-clause-again
search-requires-clause-again g c =
    let more : c.args.self.now.at < length c.args.self.now.row.now =
    (let ne = c.if-self.false in let within = c.requires.stands.at.within in omega arith) in
    let last = length c.args.self.now.row.now - 1 in
    let lt : last < length c.args.self.now.row.now = omega arith in
    let is = leaf-index _ _ last _ _ _ c.requires.tree c.requires.stands.at lt in
    let ix = get_or_default _ _ c.index-self-last.result 0 lt ∙ is.1.1 in
    let can =
    can_search-part g.F.FnMut (g.H.Reads.reading c.args.how.now) _ _ last _ _ _ c.requires.tree c.requires.stands.at (omega arith) lt
    (c.compare.ensures.asks _ (Contains-at _ _ _ is.1.0 ix)) c.requires.can_search in CanAsk-again g.F.FnMut _ can

pub returns : goal.returns
returns g c =
    let more : c.args.self.now.at < length c.args.self.now.row.now =
    (let ne = c.if-self.false in let within = c.requires.stands.at.within in omega arith) in
    let read = g.H.Reads.reading c.args.how.now in
    let last = length c.args.self.now.row.now - 1 in
    let lt : last < length c.args.self.now.row.now = omega arith in
    let missed = c.in-Err.ensures.missed in
    let inside : c.args.self.now.at + c.in-Err.i ≤ length c.args.self.now.row.now =
    omega (arith, length-take (last - c.args.self.now.at) (drop c.args.self.now.at c.args.self.now.row.now)) in
    let moved = IsAt-moved _ _ _ _ _ _ c.requires.tree c.requires.stands.at inside in
    let on = moved.1 in
    record {
      stands = record { at = moved.0; leaf_parent = c.requires.stands.leaf_parent };
      ahead = omega arith;
      arrives = λ arrived.
          let is = leaf-index _ _ last _ _ _ c.requires.tree c.requires.stands.at lt in
          let ix = get_or_default _ _ c.index-self-last.result 0 lt ∙ is.1.1 in
          let there : place_in c.args.root.now c.args.height (to_gap c.args.self.now.path (c.args.self.now.at + c.in-Err.i)) ≡ place_in c.args.root.now c.args.height (to_gap c.args.self.now.path c.args.self.now.at) + c.in-Err.i = omega arith in
          rw there (arrives-in_leaf g.F.FnMut read _ _ last _ _ _ c.requires.tree c.requires.stands.at (omega arith) lt c.in-Err.i _ c.compare.result
          (sym c.is_gt.ensures ∙ c.if-is_gt.false) (c.compare.ensures.unequal refl c.requires.unequal)
          (c.compare.ensures.asks _ (Contains-at _ _ _ is.1.0 ix))
          (told g.F.FnMut read _ _ _ c.compare.result _ (is.1.0, ix) c.compare.ensures.steady)
          refl c.in-Err.ensures);
      goes_on = λ passed. absurd (true≢false passed);
      end = λ passed. absurd (true≢false passed);
    }
