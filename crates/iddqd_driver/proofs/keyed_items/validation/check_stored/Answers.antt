use Rattle.std.proofs.Common.{◌∙◌, sym}
use Rattle.std.proofs.lemmas.Bool.{false≢true}
use Rattle.iddqd.proofs.ValidationLemmas.{Validates-unsound}
use Rattle.iddqd.proofs.LiveLemmas.{live_at}
use Rattle.iddqd_hash.specs.MapHashTable.{filed}
use Rattle.iddqd_order.specs.MapBTreeTable.{order_of}
use Rattle.iddqd_driver.specs.Validation.{AreStored}
use Rattle.iddqd_driver.proofs.ValidationLemmas.{Checked-none, Checked-live, Checked-next}
use Rattle.iddqd_driver.proofs.keyed_items.validation.check_stored.Goals as goal

pub loop-ix-init : goal.loop-ix-init
loop-ix-init g c = rw (c.into_iter-ix-iterator.ensures.into_iter_gives ∙ c.iter-ix-items.ensures.pairs) (Checked-none _ _)

pub returns-then-not-contains_index : goal.returns-then-not-contains_index
returns-then-not-contains_index g c =
    let left = rw c.in-Some.ensures.steps at c.loop-ix.invariant in
    let live = live_at c.args.items.now.store c.in-Some.ix _ (Checked-live _ _ _ _ _ left) in
    Validates-unsound (AreStored c.args.items.now.store (filed c.args.first.now) (order_of c.args.second.now)) c.refusal.result (λ stored. let here = (stored c.in-Some.ix live).0 in absurd (false≢true (sym c.if-not-contains_index.true ∙ c.contains_index.ensures ∙ here)))

pub returns-then-not-contains_index-2 : goal.returns-then-not-contains_index-2
returns-then-not-contains_index-2 g c =
    let left = rw c.in-Some.ensures.steps at c.loop-ix.invariant in
    let live = live_at c.args.items.now.store c.in-Some.ix _ (Checked-live _ _ _ _ _ left) in
    Validates-unsound (AreStored c.args.items.now.store (filed c.args.first.now) (order_of c.args.second.now)) c.refusal-then-not-contains_index-2.result (λ stored. let here = (stored c.in-Some.ix live).1 in let told = c.contains_index-in-loop-ix.ensures.1 here in absurd (false≢true (sym c.if-not-contains_index-2.true ∙ told)))

pub loop-ix-preserved : goal.loop-ix-preserved
loop-ix-preserved g c =
    let left = rw c.in-Some.ensures.steps at c.loop-ix.invariant in
    Checked-next _ _ _ _ _ left (sym c.contains_index.ensures ∙ c.if-not-contains_index.false, c.contains_index-in-loop-ix.ensures.0 c.if-not-contains_index-2.false)
