use Rattle.iddqd_order.proofs.Names.{◌≡◌, ℕ, ◌+◌, ◌-◌, ◌<◌, ◌≤◌, List, length, take, drop, get_or, refl, arith, length-drop, length-take-le, same_lists, insert, remove, IsSplit, most_in_row, least_in_row}
use Rattle.std.proofs.lemmas.List.{places}
use Rattle.iddqd_order.proofs.btree_table.row.Row.split.Goals as goal

-- the index itself is the middle
split_about :
    (xs : List ℕ) (i x : ℕ)
    → length xs ≡ most_in_row
    → least_in_row ≤ i
    → i ≤ least_in_row + 1
    → IsSplit xs i x (take i xs) x (drop i xs)
split_about xs i x n low high =
    let l = length-take-le i xs (omega arith) in
    record {
      is = refl;
      low_length = ((λ le. omega arith), (λ lt. omega arith));
      high_length = omega (arith, length-drop i xs);
    }

-- or goes to the lower part
split_low :
    (xs : List ℕ) (i x : ℕ)
    → length xs ≡ most_in_row
    → i < least_in_row
    → let low = take least_in_row xs in
    IsSplit xs i x (insert (remove low (least_in_row - 1)) i x) (get_or low (least_in_row - 1) 0) (drop least_in_row xs)
split_low xs i x n p = record {
  is = same_lists _ _ (grind (arith, places)) (λ k d h. grind (arith, places));
  low_length = ((λ _. grind (arith, places)), (λ q. absurd (omega arith)));
  high_length = grind (arith, places);
}

-- or to the upper part
split_high :
    (xs : List ℕ) (i x : ℕ)
    → length xs ≡ most_in_row
    → least_in_row + 1 < i
    → i ≤ most_in_row
    → let high = drop (least_in_row + 1) xs in
    IsSplit xs i x (take (least_in_row + 1) xs) (get_or high 0 0) (insert (remove high 0) (i - (least_in_row + 2)) x)
split_high xs i x n p q = record {
  is = same_lists _ _ (grind (arith, places)) (λ k d h. grind (arith, places));
  low_length = ((λ q. absurd (omega arith)), (λ _. grind (arith, places)));
  high_length = grind (arith, places);
}

pub returns-then-at-eq-LEAST : goal.returns-then-at-eq-LEAST
returns-then-at-eq-LEAST c =
    rw (c.if-at-eq-LEAST.true, c.split_off-upper.ensures.head, c.split_off-upper.ensures.tail)
    (split_about c.args.self.now least_in_row c.args.ix c.requires.full (omega arith) (omega arith))

pub returns-then-at : goal.returns-then-at
returns-then-at c = rw (c.if-at.true, c.split_off-upper-else-at-le-LEAST.ensures.head, c.split_off-upper-else-at-le-LEAST.ensures.tail) (split_about c.args.self.now (least_in_row + 1) c.args.ix c.requires.full (omega arith) (omega arith))

pub returns-else-at-eq-LEAST : goal.returns-else-at-eq-LEAST
returns-else-at-eq-LEAST c =
    rw (c.insert.ensures, c.remove-middle.ensures.items, c.remove-middle.ensures.value, c.split_off-upper.ensures.head, c.split_off-upper.ensures.tail)
    (split_low c.args.self.now c.args.at c.args.ix c.requires.full (omega (arith, c.if-at-le-LEAST.true, c.if-at-eq-LEAST.false)))

pub returns-else-at : goal.returns-else-at
returns-else-at c =
    rw (c.insert-else-at-le-LEAST.ensures, c.remove-middle-else-at-le-LEAST.ensures.items, c.remove-middle-else-at-le-LEAST.ensures.value, c.split_off-upper-else-at-le-LEAST.ensures.head, c.split_off-upper-else-at-le-LEAST.ensures.tail)
    (split_high c.args.self.now c.args.at c.args.ix c.requires.full (omega (arith, c.if-at-le-LEAST.false, c.if-at.false)) (omega (arith, c.requires.in_bounds, c.requires.full)))
