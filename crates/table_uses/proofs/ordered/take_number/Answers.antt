use Rattle.std.proofs.Common.{rules, refl, sym, subst, ap, ◌∙◌, ◌≡◌, ◌<◌, ℕ, length, slice_index, IsTrue}
use Rattle.std.specs.Ordering.{nat_cmp}
use Rattle.std.proofs.lemmas.Cmp.{nat_cmp_total}
use Rattle.std.proofs.lemmas.List.Elements.{All-contains}
use Rattle.iddqd_order.specs.Asking.{closure_of}
use Rattle.iddqd_order.specs.KeyOrder.{IsInKeyOrder}
use Rattle.iddqd_order.specs.MapBTreeTable.{order_of, without}
use Rattle.iddqd_order.proofs.AskLemmas.{CanAsk-by, Steady-by}
use Rattle.iddqd_order.proofs.KeyOrderLemmas.{IsInKeyOrder-removed, IsRising-own}
use Rattle.table_uses.proofs.ordered.take_number.Goals as goal

pub prepare_remove-requires : goal.prepare_remove-requires
prepare_remove-requires c =
    CanAsk-by _ _ (λ f. f ≡ closure_of c.new-asking.result) (λ f f' ix r i h e. search rules)
    (λ f ix i h.
    let below : ix < length c.args.numbers.now = All-contains (λ j. j < length c.args.numbers.now) (order_of c.args.table.now) ix c.requires.live h.0 in
    search rules)
    _ refl

pub returns-clause-taken : goal.returns-clause-taken
returns-clause-taken c =
    let key = slice_index c.args.numbers.now in
    let answer : ℕ → _ = λ j. nat_cmp (key c.args.ix) (key j) in
    let old = order_of c.args.table.now in
    let found = c.prepare_remove.ensures.prepared.rising answer
    (record {
      steady = Steady-by _ _ (λ f. f ≡ closure_of c.new-asking.result) (λ f f' ix r i h e. search rules) _ _ (λ f f' ix r i h e. search rules) _ refl;
      rising = IsRising-own nat_cmp_total key c.args.ix answer old c.requires.in_order (λ j x below. refl);
    }) c.requires.stored in
    let left = c.remove.ensures.removed (subst IsTrue (sym c.remove.ensures.found) found) in
    let same = ap order_of c.prepare_remove.ensures.table in
    let own = c.prepare_remove.ensures.prepared.index in
    let taken = left ∙ (λ i. without (same i) (own i)) in
    search rules

pub returns-clause-in_order : goal.returns-clause-in_order
returns-clause-in_order c =
    let key = slice_index c.args.numbers.now in
    let sorted = subst (λ t. IsInKeyOrder nat_cmp key (order_of t)) (sym c.prepare_remove.ensures.table) c.requires.in_order in
    let still = IsInKeyOrder-removed nat_cmp key _ _ c.remove.ensures.in_order sorted in
    search rules
