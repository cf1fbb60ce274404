use Rattle.iddqd_order.proofs.Names.{most_children}
use Rattle.std.proofs.Common.{◌≡◌, ℕ, ◌+◌, ◌-◌, ◌≤◌, List, ◌++◌, length, take, drop, arith, rules, ap, sym, ◌∙◌}
use Rattle.std.specs.List.{insert}
use Rattle.std.proofs.lemmas.List.{take-append-drop, length-take-le}
use Rattle.std.proofs.lemmas.List.Edits.{insert-append_left, insert-append_right}
use Rattle.iddqd_order.proofs.btree_table.node.split_children.Goals as goal

-- one more goes to the lower part
early :
    {X : Type 0} (ks lo hi : List X) (n i : ℕ) (a : X)
    → i + 1 ≤ n
    → n ≤ length ks
    → lo ≡ insert (take n ks) (i + 1) a
    → hi ≡ drop n ks
    → lo ++ hi ≡ insert ks (i + 1) a
early ks lo hi n i a p q e f =
    let l : length (take n ks) ≡ n = length-take-le n ks q in
    rw (e, f) (sym (insert-append_left (take n ks) (drop n ks) (i + 1) a (omega arith)) ∙ ap (λ z. insert z (i + 1) a) (take-append-drop n ks))

-- and to the upper one
late :
    {X : Type 0} (ks lo hi : List X) (n i : ℕ) (a : X)
    → n ≤ i + 1
    → n ≤ length ks
    → lo ≡ take n ks
    → hi ≡ insert (drop n ks) (i + 1 - n) a
    → lo ++ hi ≡ insert ks (i + 1) a
late ks lo hi n i a p q e f =
    rw (e, f) (sym (insert-append_right (take n ks) (drop n ks) n (i + 1) a (length-take-le n ks q) p) ∙ ap (λ z. insert z (i + 1) a) (take-append-drop n ks))

pub returns-then-i-low : goal.returns-then-i-low
returns-then-i-low c = record {
  parts = (
      let n : length c.args.children.now.items ≡ most_children = search rules in
      early _ _ _ (c.args.low - 1) c.args.i c.args.after (omega (arith, c.if-i-low.true))
      (omega (arith, c.requires.not_all)) (search rules) c.move_tail.ensures.tail);
  capacity = search rules;
  low = search rules;
  other_capacity = omega arith;
}

pub returns-else-i-low : goal.returns-else-i-low
returns-else-i-low c = record {
  parts = (
      let n : length c.args.children.now.items ≡ most_children = search rules in
      late _ _ _ c.args.low c.args.i c.args.after (omega (arith, c.if-i-low.false))
      (omega (arith, c.requires.not_all)) c.move_tail-else-i-low.ensures.head (search rules));
  capacity = omega arith;
  low = search rules;
  other_capacity = omega arith;
}
