-- Purchases by customer, the newest first.
use Rattle.std.specs.Prelude.{ℕ, Bool}
use Rattle.std.specs.Ordering.{eq_by_cmp, nat_cmp, ordering_then}
use Rattle.std.specs.declared.cmp.Ordering.{Ordering}
use Rattle.uses.specs.declared.purchases.Purchase.{Purchase}

-- how two purchases compare by customer, and then by day, the later first
abbrev pub newest_first : Purchase → Purchase → Ordering
newest_first x y = ordering_then (nat_cmp x.customer y.customer) (nat_cmp y.day x.day)

-- the purchase is of this customer
abbrev pub is_of : ℕ → Purchase → Bool
is_of customer purchase = eq_by_cmp nat_cmp customer purchase.customer
