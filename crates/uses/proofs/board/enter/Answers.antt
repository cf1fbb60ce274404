use Rattle.std.proofs.Common.{◌≡◌, refl, rules}
use Rattle.std.specs.Prelude.{Ok, Err, IfErr, IfOk, OnOk}
use Rattle.iddqd_maps.specs.Store.{inserted, next_index}
use Rattle.uses.specs.Exchanges.{IsWhyNotAdded}
use Rattle.uses.specs.Scores.{same_hour, with_points}
use Rattle.uses.proofs.ExchangeLemmas.{not_added}
use Rattle.uses.proofs.UpdateLemmas.{merges_item, refused_none}
use Rattle.uses.proofs.board.enter.Goals as goal

pub returns-clause-index : goal.returns-clause-index
returns-clause-index c = λ ix hit. (c.modify_or_insert.ensures.modifies ix hit).0

pub returns-clause-given : goal.returns-clause-given
returns-clause-given c = λ ix hit.
    merges_item _ _ _ (with_points c.args.score.points) (λ was left called. search rules) _ _ _
    (c.modify_or_insert.ensures.modifies ix hit).1

pub returns-clause-added : goal.returns-clause-added
returns-clause-added c = λ none.
    let old = c.args.board.now.store in
    let new = c.modify_or_insert.new.self.store in
    elim c.modify_or_insert.result as (λ r. c.modify_or_insert.result ≡ r → OnOk r (new ≡ inserted old c.args.score)) [
      | Ok ix ↦ λ is. (rw is at (c.modify_or_insert.ensures.inserts none)).stored
      | Err refusal ↦ λ is. tt
    ] refl

pub returns-clause-refused : goal.returns-clause-refused
returns-clause-refused c =
    let did = c.modify_or_insert in
    let old = c.args.board.now in
    let score = c.args.score in
    elim did.result as (λ r. did.result ≡ r → IfErr r (IsWhyNotAdded same_hour score old)) [
      | Ok ix ↦ λ is. tt
      | Err refusal ↦ λ is.
          let none = refused_none old.store (same_hour score) _ did.result refusal did.ensures.modifies is in
          rw is at (not_added same_hour _ score old did.new.self did.result (did.ensures.inserts none))
    ] refl

pub returns-clause-place : goal.returns-clause-place
returns-clause-place c = λ none.
    let did = c.modify_or_insert in
    let old = c.args.board.now.store in
    elim did.result as (λ r. did.result ≡ r → IfOk r (λ ix. ix ≡ next_index old)) [
      | Ok ix ↦ λ is. (rw is at (did.ensures.inserts none)).index
      | Err refusal ↦ λ is. tt
    ] refl
