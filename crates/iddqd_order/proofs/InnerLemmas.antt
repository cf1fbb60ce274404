-- How many inner nodes a tree of so many indexes has at most.
use Rattle.iddqd_order.proofs.Names.{least_in_row}
use Rattle.std.proofs.Common.{All, ◌≡◌, ℕ, zero, suc, ◌+◌, ◌*◌, ◌≤◌, List, [], ◌∷◌, length, map, sum_by, arith}
use Rattle.std.proofs.lemmas.List.{length-append}
use Rattle.std.proofs.lemmas.List.Elements.{All-head, All-tail}
use Rattle.std.proofs.lemmas.List.Sums.{sum_by-cons}
use Rattle.iddqd_order.specs.declared.btree_table.node.Node.{Node}
use Rattle.iddqd_order.specs.Node.{row, children, weave, flat, inners, IsFormed}

pub wide :
    (f : Node → List ℕ) (g : Node → ℕ) (xs : List ℕ) (ns : List Node)
    → length ns ≡ length xs + 1
    → All (λ n. 30 * g n + 5 ≤ length (f n)) ns
    → 30 * sum_by g ns + 5 * length ns + length xs ≤ length (weave xs (map f ns))
wide f g [] [] e a = absurd (omega arith)
wide f g [] (n ∷ []) e a =
    let h = All-head (λ n. 30 * g n + 5 ≤ length (f n)) n [] a in omega (arith, sum_by-cons g n [])
wide f g [] (n ∷ (m ∷ ns)) e a = absurd (omega arith)
wide f g (x ∷ xs) [] e a = absurd (omega arith)
wide f g (x ∷ xs) (n ∷ ns) e a =
    let h = All-head (λ n. 30 * g n + 5 ≤ length (f n)) n ns a in
    let rest = wide f g xs ns (omega arith) (All-tail (λ n. 30 * g n + 5 ≤ length (f n)) n ns a) in
    omega (arith, sum_by-cons g n ns, length-append (f n) (x ∷ weave xs (map f ns)))

pub inners-below :
    (h : ℕ) (n : Node)
    → IsFormed h n
    → least_in_row ≤ length (row n)
    → 30 * inners h n + least_in_row ≤ length (flat h n)
unfolding inners flat IsFormed
inners-below zero n f le = omega arith
inners-below (suc h) n f le =
    let one = f.0.one_more in
    let w =
    wide (λ k. flat h k) (λ k. inners h k) (row n) (children n) one
    (λ i d lt. let e = f.1 i d lt in inners-below h _ e.1 e.0) in
    omega arith

pub inners-root : (h : ℕ) (n : Node) → IsFormed h n → 1 ≤ length (row n) → 30 * inners h n ≤ length (flat h n) + 19
unfolding inners flat IsFormed
inners-root zero n f le = omega arith
inners-root (suc h) n f le =
    let one = f.0.one_more in
    let w =
    wide (λ k. flat h k) (λ k. inners h k) (row n) (children n) one
    (λ i d lt. let e = f.1 i d lt in inners-below h _ e.1 e.0) in
    omega arith
