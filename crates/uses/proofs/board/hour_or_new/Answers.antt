use Rattle.std.proofs.Common.{rules, ◌≡◌, ◌∙◌, ap, refl, subst}
use Rattle.std.specs.Prelude.{Ok, Err, IfErr, OnOk}
use Rattle.iddqd_maps.specs.Scan.{HasNoHit}
use Rattle.iddqd_maps.specs.Store.{inserted}
use Rattle.uses.specs.Exchanges.{IsWhyNotAdded}
use Rattle.uses.specs.Scores.{has_hour, same_hour, unscored}
use Rattle.uses.specs.declared.scores.Score.{Score}
use Rattle.uses.proofs.ExchangeLemmas.{not_added}
use Rattle.uses.proofs.UpdateLemmas.{refused_none}
use Rattle.uses.proofs.board.hour_or_new.Goals as goal

pub returns-clause-added : goal.returns-clause-added
returns-clause-added c = λ none.
    let (score, made, did) = c.find_or_insert_with.ensures.inserts none in
    let blank = unscored c.args.hour in
    let is : score ≡ blank = search rules in
    let old = c.args.board.now.store in
    let new = c.find_or_insert_with.new.self.store in
    elim c.find_or_insert_with.result as (λ r. c.find_or_insert_with.result ≡ r → OnOk r (new ≡ inserted old blank)) [
      | Ok ix ↦ λ done. (rw done at did).stored ∙ ap (inserted old) is
      | Err refusal ↦ λ done. tt
    ] refl

pub returns-clause-refused : goal.returns-clause-refused
returns-clause-refused c =
    let call = c.find_or_insert_with in
    let old = c.args.board.now in
    let test = has_hour c.args.hour in
    let blank = unscored c.args.hour in
    let why : HasNoHit old.store test → IfErr call.result (IsWhyNotAdded same_hour blank old) = λ none.
    let (score, made, did) = call.ensures.inserts none in
    let is : score ≡ blank = search rules in
    subst (λ (x : Score). IfErr call.result (IsWhyNotAdded same_hour x old)) is
    (not_added same_hour _ score old call.new.self call.result did) in
    elim call.result as (λ r. call.result ≡ r → IfErr r (IsWhyNotAdded same_hour blank old)) [
      | Ok ix ↦ λ done. tt
      | Err refusal ↦ λ done. rw done at (why (refused_none old.store test _ call.result refusal call.ensures.found done))
    ] refl
