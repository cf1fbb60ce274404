use Rattle.std.proofs.Common.{rules, refl, ◌≡◌, ◌<◌, ℕ, length, slice_index}
use Rattle.std.specs.Ordering.{nat_cmp}
use Rattle.std.proofs.lemmas.Cmp.{nat_cmp_total}
use Rattle.std.proofs.lemmas.List.Elements.{All-contains}
use Rattle.iddqd_order.specs.Asking.{closure_of}
use Rattle.iddqd_order.specs.MapBTreeTable.{order_of}
use Rattle.iddqd_order.proofs.AskLemmas.{CanAsk-by, Steady-by}
use Rattle.iddqd_order.proofs.KeyOrderLemmas.{IsInKeyOrder-inserted, IsRising-own}
use Rattle.table_uses.proofs.ordered.add_number.Goals as goal

pub prepare_insert-requires-clause-can_ask : goal.prepare_insert-requires-clause-can_ask
prepare_insert-requires-clause-can_ask c =
    CanAsk-by _ _ (λ f. f ≡ closure_of c.new-asking.result) (λ f f' ix r i h e. search rules)
    (λ f ix i h.
    let below : ix < length c.args.numbers.now = All-contains (λ j. j < length c.args.numbers.now) (order_of c.args.table.now) ix c.requires.live h.0 in
    search rules)
    _ refl

pub returns-clause-in_order : goal.returns-clause-in_order
returns-clause-in_order c =
    let key = slice_index c.args.numbers.now in
    let answer : ℕ → _ = λ j. nat_cmp (key c.args.ix) (key j) in
    let old = order_of c.args.table.now in
    let prepared = c.in_ok-prepare_insert.ensures.prepared.prepared in
    let belongs = prepared.place answer
    (record {
      steady = Steady-by _ _ (λ f. f ≡ closure_of c.new-asking.result) (λ f f' ix r i h e. search rules) _ _ (λ f f' ix r i h e. search rules) _ refl;
      rising = IsRising-own nat_cmp_total key c.args.ix answer old c.requires.in_order (λ j x below. refl);
    }) in
    let inserts = rw (prepared.table, prepared.index) at c.insert.ensures.in_order in
    let sorted = IsInKeyOrder-inserted nat_cmp_total key old _ _ c.args.ix inserts c.requires.in_order belongs in
    search rules
