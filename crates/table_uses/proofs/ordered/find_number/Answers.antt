use Rattle.std.proofs.Common.{rules, arith, refl, sym, ◌≡◌, ◌<◌, ℕ, List, length, slice_index, IfSome, Option, Some, None}
use Rattle.std.specs.Ordering.{nat_cmp}
use Rattle.std.specs.declared.cmp.Ordering.TheVariants.{Equal}
use Rattle.std.proofs.lemmas.Bool.Decides.{nat_tests}
use Rattle.std.proofs.lemmas.Cmp.{nat_cmp_total}
use Rattle.std.proofs.lemmas.List.Elements.{All-contains}
use Rattle.iddqd_order.specs.Asking.{closure_of}
use Rattle.iddqd_order.specs.MapBTreeTable.{order_of}
use Rattle.iddqd_order.proofs.AskLemmas.{CanAsk-by, Steady-by}
use Rattle.iddqd_order.proofs.KeyOrderLemmas.{IsRising-from_key}
use Rattle.table_uses.proofs.ordered.find_number.Goals as goal

pub find_index-requires : goal.find_index-requires
find_index-requires c =
    CanAsk-by _ _ (λ f. f ≡ closure_of c.new-asking.result) (λ f f' ix r i h e. search rules)
    (λ f ix i h.
    let below : ix < length c.args.numbers.now = All-contains (λ j. j < length c.args.numbers.now) (order_of c.args.table.now) ix c.requires.live h in
    search rules)
    _ refl

same : (a b : ℕ) → nat_cmp a b ≡ Equal → a ≡ b
same a b e = grind (arith, nat_tests)

itself : (a b : ℕ) → b ≡ a → nat_cmp a b ≡ Equal
itself a b e = grind (arith, nat_tests)

hit_at :
    (numbers : List ℕ) (sought : ℕ) (r : Option ℕ)
    → IfSome r (λ ix. nat_cmp sought (slice_index numbers ix) ≡ Equal)
    → IfSome r (λ ix. slice_index numbers ix ≡ sought)
hit_at numbers sought None h = tt
hit_at numbers sought (Some ix) h = sym (same sought (slice_index numbers ix) h)

pub returns-clause-hit : goal.returns-clause-hit
returns-clause-hit c =
    hit_at c.args.numbers.now c.args.sought c.find_index.result
    (c.find_index.ensures.hit (λ ix. nat_cmp c.args.sought (slice_index c.args.numbers.now ix))
    (Steady-by _ _ (λ f. f ≡ closure_of c.new-asking.result) (λ f f' ix r i h e. search rules) _ _ (λ f f' ix r i h e. search rules) _ refl))

pub returns-clause-miss : goal.returns-clause-miss
returns-clause-miss c none k d lt e =
    let answer : ℕ → _ = λ ix. nat_cmp c.args.sought (slice_index c.args.numbers.now ix) in
    c.find_index.ensures.miss answer
    (record {
      steady = Steady-by _ _ (λ f. f ≡ closure_of c.new-asking.result) (λ f f' ix r i h e. search rules) _ _ (λ f f' ix r i h e. search rules) _ refl;
      rising = IsRising-from_key nat_cmp_total (slice_index c.args.numbers.now) c.args.sought (order_of c.args.table.now) answer c.requires.in_order (λ j x below. refl);
    })
    none k d lt (itself _ _ e)
