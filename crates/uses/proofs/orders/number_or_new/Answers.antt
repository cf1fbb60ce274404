use Rattle.std.proofs.Common.{rules, ◌≡◌, ◌∙◌, ap, refl, subst}
use Rattle.std.specs.Prelude.{Ok, Err, IfErr, OnOk}
use Rattle.iddqd_maps.specs.Scan.{HasNoHit}
use Rattle.iddqd_maps.specs.Store.{inserted}
use Rattle.uses.specs.Exchanges.{IsWhyNotAdded}
use Rattle.uses.specs.Ledger.{has_number, shares_number, unpriced}
use Rattle.uses.specs.declared.ledger.Order.{Order}
use Rattle.uses.proofs.ExchangeLemmas.{not_added}
use Rattle.uses.proofs.UpdateLemmas.{refused_none}
use Rattle.uses.proofs.orders.number_or_new.Goals as goal

pub returns-clause-added : goal.returns-clause-added
returns-clause-added c = λ none.
    let (order, made, did) = c.find_or_insert_with.ensures.inserts none in
    let blank = unpriced c.args.number c.args.customer c.args.day in
    let is : order ≡ blank = search rules in
    let old = c.args.intake.now.store in
    let new = c.find_or_insert_with.new.self.store in
    elim c.find_or_insert_with.result as (λ r. c.find_or_insert_with.result ≡ r → OnOk r (new ≡ inserted old blank)) [
      | Ok ix ↦ λ done. (rw done at did).stored ∙ ap (inserted old) is
      | Err refusal ↦ λ done. tt
    ] refl

pub returns-clause-refused : goal.returns-clause-refused
returns-clause-refused c =
    let call = c.find_or_insert_with in
    let old = c.args.intake.now in
    let test = has_number c.args.number in
    let blank = unpriced c.args.number c.args.customer c.args.day in
    let why : HasNoHit old.store test → IfErr call.result (IsWhyNotAdded shares_number blank old) = λ none.
    let (order, made, did) = call.ensures.inserts none in
    let is : order ≡ blank = search rules in
    subst (λ (x : Order). IfErr call.result (IsWhyNotAdded shares_number x old)) is
    (not_added shares_number _ order old call.new.self call.result did) in
    elim call.result as (λ r. call.result ≡ r → IfErr r (IsWhyNotAdded shares_number blank old)) [
      | Ok ix ↦ λ done. tt
      | Err refusal ↦ λ done. rw done at (why (refused_none old.store test _ call.result refusal call.ensures.found done))
    ] refl
