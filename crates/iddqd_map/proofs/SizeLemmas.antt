-- What tables keep of their memory where they are shrunk for no more indexes than they have room for.
use Rattle.std.proofs.Common.{◌<◌, ◌≤◌, ℕ, max, Result, Ok, Err, OnErr, arith}
use Rattle.std.specs.Result.{result_and}
use Rattle.iddqd_hash.specs.OpenTableSizes.{least_cells}
use Rattle.iddqd_hash.proofs.LeastCellsLemmas.{least_cells-grows}

pub needed-kept :
    {A E : Type 0} (r : Result A E) (kept count cells : ℕ)
    → kept ≤ count
    → OnErr r (least_cells count < cells)
    → OnErr r (least_cells kept < cells)
needed-kept (Ok x) kept count cells below fewer = tt
needed-kept (Err e) kept count cells below fewer =
    let least = least_cells-grows kept count below in
    omega (arith, least, fewer)

pub enough-kept :
    (kept capacity cells : ℕ)
    → kept ≤ capacity
    → least_cells capacity ≤ cells
    → least_cells kept ≤ cells
enough-kept kept capacity cells below enough =
    let least = least_cells-grows kept capacity below in
    omega (arith, least, enough)

-- what follows from the refusal of either call
pub either-refused :
    {A B E P Q R : Type 0} (first : Result A E) (second : Result B E)
    → OnErr first P
    → OnErr second Q
    → (P → R)
    → (Q → R)
    → OnErr (result_and first second) R
either-refused (Ok x) (Ok y) one other from_one from_other = tt
either-refused (Ok x) (Err e) one other from_one from_other = from_other other
either-refused (Err e) second one other from_one from_other = from_one one

-- and of one of three
pub one-refused :
    {A B C E P Q O R : Type 0} (first : Result A E) (second : Result B E) (third : Result C E)
    → OnErr first P
    → OnErr second Q
    → OnErr third O
    → (P → R)
    → (Q → R)
    → (O → R)
    → OnErr (result_and first (result_and second third)) R
one-refused first second third one two three from_one from_two from_three =
    either-refused first (result_and second third) one
    (either-refused second third two three from_two from_three) from_one (λ known. known)

-- more slots and more indexes need no fewer cells
module _
    (needed : ℕ → ℕ → ℕ)
    (grows : (slots more_slots count more : ℕ) → slots ≤ more_slots → count ≤ more
    → needed slots count ≤ needed more_slots more)
  where
    pub needed-within :
        (slots few kept cells : ℕ)
        → few ≤ kept
        → needed (max slots kept) kept ≤ cells
        → needed (max slots few) few ≤ cells
    needed-within slots few kept cells within enough =
        let up = grows (max slots few) (max slots kept) few kept (omega (arith, within)) within in
        omega (arith, up, enough)

    pub needed-less :
        (slots few kept cells : ℕ)
        → few ≤ kept
        → needed (max slots kept) kept < cells
        → needed (max slots few) few < cells
    needed-less slots few kept cells within fewer =
        let up = grows (max slots few) (max slots kept) few kept (omega (arith, within)) within in
        omega (arith, up, fewer)
