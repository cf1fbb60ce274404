use Rattle.std.proofs.Common.{◌≡◌, ◌∙◌, true, Some, sym, ap}
use Rattle.iddqd.specs.Store.{get, removed}
use Rattle.iddqd.specs.ItemSet.{SizedStore}
use Rattle.iddqd.proofs.StoreLemmas.{IsValid-removed}
use Rattle.iddqd_map.specs.Sweep.{removes}
use Rattle.iddqd_map.proofs.map.sweep.visit.Goals as goal

pub pass_on-requires-clause-given : goal.pass_on-requires-clause-given
pass_on-requires-clause-given g c = λ item live.
    let one : Some c.in-Some.item.now ≡ Some item = c.in-Some.ensures ∙ live in
    let is : removes (g.R.Answer.reads c.ask-answer.result) ≡ true = ap removes (sym c.verdict.ensures ∙ c.in-Remove.is) in
    (c.requires.callable item live).1 c.ask-answer.result c.ask-answer.new.self
    (record { shown = c.in-Some.item; shows = (cc); called = c.ask-answer.ensures }) is

pub returns-in-Stop-clause-asked : goal.returns-in-Stop-clause-asked
returns-in-Stop-clause-asked g c = λ item live.
    let one : Some c.in-Some.item.now ≡ Some item = c.in-Some.ensures ∙ live in
    record { shown = c.in-Some.item; shows = (cc); called = c.ask-answer.ensures }

pub returns-in-Keep-clause-asked : goal.returns-in-Keep-clause-asked
returns-in-Keep-clause-asked g c = λ item live.
    let one : Some c.in-Some.item.now ≡ Some item = c.in-Some.ensures ∙ live in
    record { shown = c.in-Some.item; shows = (cc); called = c.ask-answer.ensures }

pub returns-in-Remove-clause-asked : goal.returns-in-Remove-clause-asked
returns-in-Remove-clause-asked g c = λ item live.
    let one : Some c.in-Some.item.now ≡ Some item = c.in-Some.ensures ∙ live in
    record { shown = c.in-Some.item; shows = (cc); called = c.ask-answer.ensures }

pub returns-in-Remove-clause-indexed : goal.returns-in-Remove-clause-indexed
returns-in-Remove-clause-indexed g c =
    let (item, live, passes) = c.requires.hit in
    rw c.pass_on.ensures.removed
    (record {
      valid = IsValid-removed c.args.items.now.store c.args.ix item c.requires.indexed.valid live;
      indexed = c.take-next.ensures.indexed;
    })
