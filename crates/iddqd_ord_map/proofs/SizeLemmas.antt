-- How much memory a table in order has, as its key index counts it.
use Rattle.std.proofs.Common.{◌≡◌, ◌+◌, ◌-◌, ◌≤◌, ℕ, length, min, max, Result, Ok, Err, IsOk, OnOk, OnErr, ap, arith, inl, inr}
use Rattle.std.proofs.lemmas.Bool.{cases_lt}
use Rattle.iddqd_order.specs.MapBTreeTable.{Order, order_of, capacity, capacity_for}
use Rattle.iddqd_order.specs.Sizes.{Reserves, Shrinks}
use Rattle.iddqd_ord_map.specs.OrderedSteps.{reserved_for, most_cells}

-- what holds either way holds where it went well, and where it didn't
pub on_ok : {A E P Q : Type 0} (r : Result A E) → OnOk r P → (P → Q) → OnOk r Q
on_ok (Ok x) is to = to is
on_ok (Err e) is to = tt

pub on_err : {A E P : Type 0} (r : Result A E) → P → OnErr r P
on_err (Ok x) is = tt
on_err (Err e) is = is

pub not_on_ok : {A E : Type 0} (P : Type 0) (r : Result A E) → IsOk r → OnErr r P
not_on_ok P (Ok x) is = tt
not_on_ok P (Err e) is = absurd (cc)

-- blocks for so many indexes hold these, and ten more
pub enough : (n : ℕ) → n ≤ most_cells n
enough n = omega arith

module _ {A E : Type 0} (old new : Order) (len additional : ℕ) (held : length (order_of old) ≡ len) where
  pub reserved-held :
      (r : Result A E)
      → Reserves (additional + 10) old r new
      → OnOk r (len + additional ≤ reserved_for new)
  reserved-held r is =
      on_ok r is.reserved (λ roomy. (let same = ap length is.contents in omega (arith, roomy, same, held)))

  few : (r : Result A E)
      → OnOk r (capacity new ≡ capacity_for (length (order_of old) + (additional + 10)))
      → OnErr r (new ≡ old)
      → reserved_for new ≤ reserved_for old + most_cells (len + additional)
  few (Ok x) made same =
      let wanted : length (order_of old) + (additional + 10) ≡ (len + additional) + 10 = omega (arith, held) in
      let exact : capacity new ≡ most_cells (len + additional) + 10 = rw wanted at made in
      omega (arith, exact)
  few (Err e) made same = let one = ap reserved_for same in omega (arith, one)

  pub reserved-few :
      (r : Result A E)
      → Reserves (additional + 10) old r new
      → reserved_for new ≤ reserved_for old + most_cells (len + additional)
  reserved-few r is =
      elim (cases_lt (capacity old - length (order_of old)) (additional + 10)) [
        | inl short ↦ few r (is.made short) is.refused
        | inr room ↦ (let one = ap reserved_for (is.had_room room).1 in omega (arith, one))
      ]

-- and a shrink leaves what so many need
module _ (old new : Order) (len least : ℕ) (held : length (order_of old) ≡ len)
    (shrinks : Shrinks (max least len + 10) old new) where
  left : capacity new ≡ min (capacity old) (most_cells (max least len) + 10)
  left =
      let wanted : max (max least len + 10) (length (order_of old)) ≡ max least len + 10 = omega (arith, held) in
      rw wanted at shrinks.shrunk

  pub shrunk-enough : min (reserved_for old) (max least len) ≤ reserved_for new
  shrunk-enough = omega (arith, left, enough (max least len))

  pub shrunk-few : reserved_for new ≤ most_cells (max least len)
  shrunk-few = omega (arith, left)
