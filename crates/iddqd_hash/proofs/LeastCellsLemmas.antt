-- The least number of cells for a number of pairs: it grows with that number, and a table has at least as many cells.
use lib.Dec.{leb}
use Rattle.std.proofs.Common.{◌≡◌, ◌∙◌, ◌⊎◌, ◌+◌, ◌-◌, ◌*◌, ◌^◌, ◌<◌, ◌≤◌, inl, inr, ℕ, zero, suc, true, false, cond, length, Result, Ok, Err, OnOk, OnErr, refl, sym, ap, subst, arith}
use Rattle.std.proofs.lemmas.Bool.{leb-false, lt-leb}
use Rattle.std.proofs.lemmas.Nat.{pow-add}
use Rattle.iddqd_hash.specs.HashTable.{Table, capacity, entries, memory, room, HasNoMemory}
use Rattle.iddqd_hash.specs.OpenTable.{usable_of, table_of, IsPowerOfTwo, IsSound}
use Rattle.iddqd_hash.specs.OpenTableSizes.{doubled, least_cells}
use Rattle.iddqd_hash.proofs.OpenTableLemmas.{capacity-table_of, memory-table_of, fits_from}

-- a number that was doubled so many times
abbrev twice : ℕ → ℕ → ℕ
twice zero count = count
twice (suc times) count = twice times (2 * count)

twice-more : (times count : ℕ) → count ≤ twice times count
twice-more zero count = omega arith
twice-more (suc times) count = omega (arith, twice-more times (2 * count))

twice-power : (times k : ℕ) → twice times (2 ^ k) ≡ 2 ^ (times + k)
twice-power zero k = let same : k ≡ 0 + k = omega arith in ap (λ n. 2 ^ n) same
twice-power (suc times) k =
    let once : 2 * 2 ^ k ≡ 2 ^ suc k = let added = pow-add 2 1 k in omega (arith, added) in
    let moved : times + suc k ≡ suc times + k = omega arith in
    ap (λ n. twice times n) once ∙ twice-power times (suc k) ∙ ap (λ n. 2 ^ n) moved

-- Doubling stops no later than at a number of cells that has room for the pairs.
doubled-least :
    (most times count pairs : ℕ)
    → pairs ≤ usable_of (twice times count)
    → doubled most count pairs ≤ twice times count
doubled-least zero times count pairs fits = twice-more times count
doubled-least (suc most) zero count pairs fits =
    elim (leb pairs (usable_of count)) as (λ b. leb pairs (usable_of count) ≡ b
    → cond b count (doubled most (2 * count) pairs) ≤ count) [
      | true ↦ λ _. omega arith
      | false ↦ λ no. let short = leb-false _ _ no in absurd (omega (arith, fits, short))
    ] refl
doubled-least (suc most) (suc times) count pairs fits =
    elim (leb pairs (usable_of count)) as (λ b. leb pairs (usable_of count) ≡ b
    → cond b count (doubled most (2 * count) pairs) ≤ twice (suc times) count) [
      | true ↦ λ _. twice-more (suc times) count
      | false ↦ λ _. doubled-least most times (2 * count) pairs fits
    ] refl

doubled-more : (most count pairs : ℕ) → count ≤ doubled most count pairs
doubled-more zero count pairs = omega arith
doubled-more (suc most) count pairs =
    elim (leb pairs (usable_of count)) as (λ b. count ≤ cond b count (doubled most (2 * count) pairs)) [
      | true ↦ omega arith
      | false ↦ let more = doubled-more most (2 * count) pairs in omega (arith, more)
    ]

doubled-grows :
    (few many count less more : ℕ)
    → few ≤ many
    → less ≤ more
    → doubled few count less ≤ doubled many count more
doubled-grows zero many count less more fewer below = doubled-more many count more
doubled-grows (suc few) zero count less more fewer below = absurd (omega (arith, fewer))
doubled-grows (suc few) (suc many) count less more fewer below =
    elim (leb less (usable_of count)) as (λ b. leb less (usable_of count) ≡ b
    → cond b count (doubled few (2 * count) less) ≤ doubled (suc many) count more) [
      | true ↦ λ _. doubled-more (suc many) count more
      | false ↦
          λ no.
          let short = leb-false _ _ no in
          let short_too = lt-leb more (usable_of count) (omega (arith, short, below)) in
          subst (λ b. doubled few (2 * count) less ≤ cond b count (doubled many (2 * count) more)) (sym short_too)
          (doubled-grows few many (2 * count) less more (omega (arith, fewer)) below)
    ] refl

-- more pairs need no fewer cells
pub least_cells-grows : (less more : ℕ) → less ≤ more → least_cells less ≤ least_cells more
unfolding least_cells
least_cells-grows zero more below = omega arith
least_cells-grows (suc less) zero below = absurd (omega (arith, below))
least_cells-grows (suc less) (suc more) below = doubled-grows (suc less) (suc more) 16 (suc less) (suc more) below below

-- cells that have room for the pairs are at least as many
pub least_cells-fit :
    (pairs count : ℕ)
    → (count ≡ 0) ⊎ IsPowerOfTwo count
    → pairs ≤ usable_of count
    → least_cells pairs ≤ count
unfolding least_cells
least_cells-fit zero count cells fits = omega arith
least_cells-fit (suc pairs) count (inl none) fits = absurd (omega (arith, none, fits))
least_cells-fit (suc pairs) count (inr (k, is)) fits =
    let same : twice k 16 ≡ count = twice-power k 4 ∙ sym is in
    let least = doubled-least (suc pairs) k 16 (suc pairs) (subst (λ n. suc pairs ≤ usable_of n) (sym same) fits) in
    omega (arith, least, same)

module _ {T : Type 0} where
  pub enough-table_of :
      (tags : _) (slots : _) (len used : ℕ)
      → IsSound {T = T} tags slots len used
      → least_cells (capacity (table_of slots)) ≤ memory (table_of slots)
  enough-table_of tags slots len used sound =
      rw (capacity-table_of slots (fits_from tags slots len used sound), memory-table_of, sound.probed.same_length)
      (least_cells-fit _ (length tags) sound.count (omega arith))

  pub enough-none : (t : Table T) → HasNoMemory t → length (entries t) ≡ 0 → least_cells (capacity t) ≤ memory t
  enough-none t none no_pair =
      least_cells-fit _ (memory t) (inl none.no_cell) (omega (arith, none.no_room, no_pair))

  -- a table whose pairs were placed in `count` cells, or which stayed as it was
  module _
      {A E : Type 0} (old new : Table T) (count : ℕ) (power : IsPowerOfTwo count)
    where
      pub enough-placed :
          (r : Result A E)
          → OnErr r (new ≡ old)
          → OnOk r (room new ≡ usable_of count - length (entries old))
          → OnOk r (memory new ≡ count)
          → length (entries new) ≡ length (entries old)
          → length (entries old) ≤ usable_of count
          → least_cells (capacity old) ≤ memory old
          → least_cells (capacity new) ≤ memory new
      enough-placed (Ok x) refused roomy cells same fits was =
          rw cells (least_cells-fit (capacity new) count (inr power) (omega (arith, roomy, same, fits)))
      enough-placed (Err e) refused roomy cells same fits was =
          subst (λ t. least_cells (capacity t) ≤ memory t) (sym refused) was

      pub needed-placed :
          (pairs : ℕ) (r : Result A E)
          → OnErr r (new ≡ old)
          → pairs ≤ usable_of count
          → count < memory old
          → OnErr r (least_cells pairs < memory new)
      needed-placed pairs (Ok x) refused fits fewer = tt
      needed-placed pairs (Err e) refused fits fewer =
          let least = least_cells-fit pairs count (inr power) fits in
          subst (λ t. least_cells pairs < memory t) (sym refused) (omega (arith, least, fewer))
