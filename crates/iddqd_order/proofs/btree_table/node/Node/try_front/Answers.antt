use Rattle.std.proofs.Common.{rules}
use Rattle.iddqd_order.proofs.Names.{◌∙◌, ap, arith, flat, with_ties, Askable, At_once, Contains}
use Rattle.iddqd_order.proofs.AskLemmas.{asks_none, asks_more}
use Rattle.iddqd_order.proofs.IndexListLemmas.{Contains-at}
use Rattle.iddqd_order.proofs.FrontLemmas.{Descends-front}
use Rattle.iddqd_order.proofs.SearchLemmas.{Askable-any, Askable-apart}
use Rattle.iddqd_order.proofs.btree_table.node.Node.try_front.Goals as goal

pub returns-in-Root-clause-asked : goal.returns-in-Root-clause-asked
returns-in-Root-clause-asked g c =
    asks_more g.F.FnMut _ (omega arith)
    (asks_none g.F.FnMut (Askable (flat c.args.height c.args.self.now) c.args.sought.now) _)

pub overflow_add-height : goal.overflow_add-height
overflow_add-height g c = let few = c.requires.levels in omega arith

pub compare-requires-clause-any : goal.compare-requires-clause-any
compare-requires-clause-any g c none =
    let first = c.front-first.ensures.first in
    c.requires.can_search.at _ _ At_once _
    (Askable-any (flat c.args.height c.args.self.now) c.args.sought.now _ none (Contains-at _ 0 _ first.0 first.1))

pub compare-requires-clause-other : goal.compare-requires-clause-other
compare-requires-clause-other g c ix some apart =
    let first = c.front-first.ensures.first in
    c.requires.can_search.at _ _ At_once _
    (Askable-apart (flat c.args.height c.args.self.now) c.args.sought.now _ ix some apart (Contains-at _ 0 _ first.0 first.1))

pub returns-in-Less : goal.returns-in-Less
returns-in-Less g c = record {
  front = (
      let first = c.front-first.ensures.first in
      let held : Contains (flat c.args.height c.args.self.now) c.front-first.result.0 =
      Contains-at _ 0 _ first.0 first.1 in
      Descends-front g.F.FnMut (g.H.Reads.reading c.args.how.now) c.args.sought.now c.args.height _ c.front-first.result.0 c.args.self.now c.args.path.now _ _
      c.requires.formed (λ l le. c.requires.first l) first
      (c.front-first.ensures.full c.args.path.now (λ l le. c.requires.first l))
      (c.in-Less.ensures.asks _ held) (λ answer steady. c.in-Less.ensures.steady _ answer held steady));
  asked = (
      let first = c.front-first.ensures.first in
      c.in-Less.ensures.asks _ (Contains-at _ 0 _ first.0 first.1));
  found = search rules;
  unasked = search rules;
}

-- the answer was not Less
pub returns-in_default : goal.returns-in_default
returns-in_default g c = record {
  asked = (
      let first = c.front-first.ensures.first in
      c.compare.ensures.asks _ (Contains-at _ 0 _ first.0 first.1));
  found = λ start answer steady less.
      let first = c.front-first.ensures.first in
      let answered = c.compare.ensures.steady _ answer (Contains-at _ 0 _ first.0 first.1) steady in
      absurd (c.in_default.not-Less (answered ∙ ap (λ ix. with_ties c.args.sought.now answer ix) first.1 ∙ less));
  front = search rules;
  unasked = search rules;
}
