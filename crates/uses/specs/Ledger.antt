-- Orders by their numbers and in the order of their days.
use Rattle.std.specs.Prelude.{◌≡◌, ◌==◌, ◌/◌, ◌≤◌, ℕ, Bool, Some}
use Rattle.std.specs.Ordering.{nat_cmp, eq_by_cmp}
use Rattle.std.specs.declared.cmp.Ordering.{Ordering}
use Rattle.std.specs.declared.ops.Bound.TheVariants.{Excluded, Included, Unbounded}
use Rattle.iddqd_maps.specs.OrderedQuery.{is_within}
use Rattle.iddqd_maps.specs.Store.{Store, get}
use Rattle.uses.specs.declared.ledger.Order.{Order}

-- the order has this number
abbrev pub has_number : ℕ → Order → Bool
has_number number order = number == order.number

-- the orders have one number
abbrev pub shares_number : Order → Order → Bool
shares_number x y = has_number x.number y

-- how two orders compare by their days
abbrev pub by_day : Order → Order → Ordering
by_day x y = nat_cmp x.day y.day

-- the order is due on this day
abbrev pub is_due_on : ℕ → Order → Bool
is_due_on day order = eq_by_cmp nat_cmp day order.day

-- the order is due on this day or later
abbrev pub is_due_from : ℕ → Order → Bool
is_due_from day order = is_within (λ (from : ℕ) (order : Order). nat_cmp from order.day) (Included day) Unbounded order

-- the order is due before this day
abbrev pub is_due_before : ℕ → Order → Bool
is_due_before day order = is_within (λ (day : ℕ) (order : Order). nat_cmp day order.day) Unbounded (Excluded day) order

-- the order is due on this day or later, and before that one
abbrev pub is_due_between : ℕ → ℕ → Order → Bool
is_due_between from before order =
    is_within (λ (day : ℕ) (order : Order). nat_cmp day order.day) (Included from) (Excluded before) order

-- the order with half its amount
abbrev pub halved : Order → Order
halved order = record order { amount = order.amount / 2 }

-- the order with this number, customer and day that comes to nothing
abbrev pub unpriced : ℕ → ℕ → ℕ → Order
unpriced number customer day = record { number = number; customer = customer; day = day; amount = 0 }

-- the order stands at the index, and none is due before it
abbrev pub IsDueFirst : Store Order → ℕ → Order → Type 0
IsDueFirst s ix order =
    (get s ix ≡ Some order) × ((j : ℕ) (other : Order) → get s j ≡ Some other → order.day ≤ other.day)
