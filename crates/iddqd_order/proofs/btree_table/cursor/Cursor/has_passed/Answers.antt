use Rattle.iddqd_order.proofs.Names.{◌∙◌, ◌+◌, ◌≤◌, sym, arith, in_order, Askable, At_once, None}
use Rattle.std.proofs.lemmas.Bool.{false≢true}
use Rattle.iddqd_order.proofs.AskLemmas.{asks_none, asks_more}
use Rattle.iddqd_order.proofs.IndexListLemmas.{Contains-at}
use Rattle.iddqd_order.proofs.NearbyLemmas.{advances, leaf-index, told}
use Rattle.iddqd_order.proofs.btree_table.cursor.Cursor.has_passed.Goals.{then-self-gt0, else-self-gt0}
use Rattle.iddqd_order.proofs.SearchLemmas.{none-sought}
use Rattle.iddqd_order.proofs.btree_table.cursor.Cursor.has_passed.Goals as goal

pub compare-requires-clause-any : goal.compare-requires-clause-any
compare-requires-clause-any g c =
    let there = c.in-Some.ensures.lookup.3 in
    let is = leaf-index _ _ _ _ _ _ c.requires.tree c.requires.stands.at there.0 in λ none. c.requires.can_search.at _ _ At_once _ (Contains-at _ _ _ is.1.0 (there.1 0 ∙ is.1.1))

pub compare-requires-clause-other : goal.compare-requires-clause-other
compare-requires-clause-other g c ix some = none-sought ix some

pub returns-in-Some : goal.returns-in-Some
returns-in-Some g c =
    let read = g.H.Reads.reading c.args.how.now in
    let there = c.in-Some.ensures.lookup.3 in
    let is = leaf-index _ _ _ _ _ _ c.requires.tree c.requires.stands.at there.0 in
    let e = is.0 in let ix = there.1 0 ∙ is.1.1 in
    let inside = is.1.0 in
    let asked = c.compare.ensures.asks _ (Contains-at _ _ _ is.1.0 ix) in
    record {
      asked = asked;
      advances = λ gt.
          let le : c.args.self.now.at ≤ c.if-self-gt0.before + 1 =
          elim c.if-self-gt0.branch [
            | then-self-gt0 w ↦ (let b = w.before-is in let some = w.if-self-gt0.true in omega arith)
            | else-self-gt0 w ↦ (let b = w.before-is in let none = w.if-self-gt0.false in omega arith)
          ] in
          advances g.F.FnMut read _ _ c.compare.result is.1.0 (omega arith) (sym c.is_gt.ensures ∙ gt) asked
          (told g.F.FnMut read _ _ _ c.compare.result _ (is.1.0, ix) c.compare.ensures.steady);
      some = λ passed. omega arith;
    }

pub returns-in-None : goal.returns-in-None
returns-in-None g c = record {
  asked = asks_more g.F.FnMut _ (omega arith) (asks_none g.F.FnMut (Askable (in_order c.args.root.now c.args.height) None) _);
  advances = λ passed. absurd (false≢true passed);
  some = λ passed. absurd (false≢true passed);
}
