use Rattle.std.proofs.Common.{◌∙◌, ◌∷◌, sym}
use Rattle.std.proofs.lemmas.Bool.{false≢true}
use Rattle.iddqd.proofs.StoreLemmas.{contains_tail}
use Rattle.iddqd.proofs.ValidationLemmas.{Validates-unsound}
use Rattle.iddqd_order.specs.Iter.{indexes_left}
use Rattle.iddqd_order.specs.MapBTreeTable.{order_of}
use Rattle.iddqd_driver.specs.Validation.{KeysRise}
use Rattle.iddqd_driver.proofs.InSyncLemmas.{rises-none, SortedAs-next, SortedAs-falls, SortedAs-all, by_key-total}
use Rattle.iddqd_driver.proofs.keyed_items.validation.check_order.Goals as goal

pub returns-in_default : goal.returns-in_default
returns-in_default g c = rises-none _ _ (sym c.iter-walk.ensures.left ∙ c.in_default.ensures.steps.0)

pub returns-then-not-is_below : goal.returns-then-not-is_below
returns-then-not-is_below g c =
    let sorted = rw c.in-Some-ix.ensures.steps at c.loop-ix.invariant.sorted in
    Validates-unsound (KeysRise g.T.KeyedItem.second_key g.T.Key2.Ord.cmp c.args.items.now.store (order_of c.args.order.now))
    c.refusal.result
    (SortedAs-falls _ _ _ _ _ sorted
    (λ less. absurd (false≢true (sym c.if-not-is_below.true ∙ c.is_below.ensures.1 less))))

pub loop-ix-preserved : goal.loop-ix-preserved
loop-ix-preserved g c =
    let live = rw c.in-Some-ix.ensures.steps at c.loop-ix.invariant.live in
    let sorted = rw c.in-Some-ix.ensures.steps at c.loop-ix.invariant.sorted in
    let total = by_key-total g.T.KeyedItem.second_key g.T.Key2.Ord.cmp g.met.T.Key2.Ord.total c.args.items.now.store in
    record {
      live = λ j here. live j (contains_tail c.loop-ix.before j (c.in-Some-ix.ix ∷ indexes_left c.next-in-loop-ix.new.self) here);
      sorted = SortedAs-next _ total _ _ _ _ sorted (c.is_below.ensures.0 c.if-not-is_below.false);
    }

pub returns : goal.returns
returns g c =
    let sorted = rw c.in-None.ensures.steps.0 at c.loop-ix.invariant.sorted in
    SortedAs-all _ _ _ sorted
