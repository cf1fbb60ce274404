use Rattle.std.proofs.Common.{◌≢◌, ◌≤◌, ℕ, Some, inl, inr, sym}
use Rattle.std.specs.Cmp.{nat_cmp_is, nat_cmp_total}
use Rattle.std.specs.Ordering.{nat_cmp}
use Rattle.std.specs.declared.cmp.Ordering.TheVariants.{Less}
use Rattle.std.proofs.lemmas.Bool.{cases_lt}
use Rattle.std.proofs.lemmas.Cmp.{on_total}
use Rattle.iddqd_maps.specs.InOrder.{FindsFirst}
use Rattle.iddqd_maps.proofs.CallerLemmas.{FindsFirst-least}
use Rattle.uses.specs.Ledger.{by_day}
use Rattle.uses.specs.declared.ledger.Order.{Order}
use Rattle.uses.proofs.orders.first_due.Goals as goal

at_most : (a b : ℕ) → nat_cmp a b ≢ Less → b ≤ a
at_most a b not_less = elim (cases_lt a b) [ inl less ↦ absurd (not_less (sym (nat_cmp_is a b Less less))) | inr most ↦ most ]

pub returns-in-Some-clause-first : goal.returns-in-Some-clause-first
returns-in-Some-clause-first c =
    let s = c.args.queue.now.store in
    let ix = c.in-Some.field-0-0 in
    let order = c.in-Some.order.now in
    let first : FindsFirst by_day s (Some (ix, order)) = rw c.in-Some.is at c.first_by.ensures in
    let (live, least) = FindsFirst-least by_day s (on_total (λ (x : Order). x.day) nat_cmp_total) ix order first in
    (ix, (live, λ j other there. at_most other.day order.day (least j other there)))
