-- How many indexes a tree has at least, and so how many levels it has and how many asks a search takes at most.
use Rattle.iddqd_order.proofs.Names.{◌≡◌, ℕ, zero, suc, ◌+◌, ◌*◌, ◌/◌, ◌^◌, ◌<◌, ◌≤◌, List, [], ◌∷◌, length, All, arith, inl, inr, length-append, eqb, nat_eq, mul-le-mul_right, pow-suc, one-le-pow, pow-le-pow_right, IsDistinct, cases_lt, length-map, All-head, All-tail, All-map, Any-from_list_any, eqb-true, length-le_from_distinct_below, Node, digits, bound, row, children, weave, flat, IsFormed, least_in_row, most_levels, MOST_INDEXES, Option, Some, None, IsTree, in_order, row_asks}
use Rattle.iddqd_order.proofs.DigitLemmas.{digits-half}
use Rattle.iddqd_order.specs.Descent.{walk_asks}
use Rattle.iddqd_order.proofs.NodeLemmas.{lists}

-- lists of at least b - 1 indexes each, woven
wide :
    (b : ℕ) (xs : List ℕ) (ks : List (List ℕ))
    → length ks ≡ length xs + 1
    → All (λ k. b ≤ length k + 1) ks
    → length ks * b ≤ length (weave xs ks) + 1
wide b [] [] e a = absurd (omega arith)
wide b [] (k ∷ []) e a = let h = All-head (λ k. b ≤ length k + 1) k [] a in omega arith
wide b [] (k ∷ (k2 ∷ ks)) e a = absurd (omega arith)
wide b (x ∷ xs) [] e a = absurd (omega arith)
wide b (x ∷ xs) (k ∷ ks) e a =
    let h = All-head (λ k. b ≤ length k + 1) k ks a in
    let rest = wide b xs ks (omega arith) (All-tail (λ k. b ≤ length k + 1) k ks a) in
    omega (arith, length-append k (x ∷ weave xs ks))

-- a tree whose root has m indexes, and each node below it five
pub least : (m h : ℕ) (n : Node) → IsFormed h n → m ≤ length (row n) → (m + 1) * 6 ^ h ≤ length (flat h n) + 1
unfolding flat IsFormed
least m zero n f le = omega arith
least m (suc h) n f le =
    let one = f.0.one_more in
    let power : 6 ^ suc h ≡ 6 ^ h * 6 = pow-suc 6 h in
    let every : All (λ k. 6 ^ suc h ≤ length k + 1) (lists h (children n)) =
    All-map (λ k. 6 ^ suc h ≤ length k + 1) (λ k. flat h k) (children n)
    (λ i d lt. let e = f.1 i d lt in let l = least least_in_row h _ e.1 e.0 in omega arith) in
    let len = length-map (children n) (λ k. flat h k) in
    let w = wide (6 ^ suc h) (row n) (lists h (children n)) (omega arith) every in
    let more : (m + 1) * 6 ^ suc h ≤ length (lists h (children n)) * 6 ^ suc h =
    mul-le-mul_right (6 ^ suc h) (omega arith) in
    omega arith

power_pos : (h : ℕ) → 1 ≤ 6 ^ h
power_pos h = one-le-pow h 6 (omega arith)

digits-power : (k n : ℕ) → 2 ^ k ≤ n → k + 1 ≤ digits n
digits-power zero n le = let half = digits-half n (omega arith) in omega arith
digits-power (suc k) n le =
    let power : 2 ^ suc k ≡ 2 ^ k * 2 = pow-suc 2 k in
    let pos = one-le-pow k 2 (omega arith) in
    let half = digits-half n (omega arith) in
    let rest = digits-power k (n / 2) (omega arith) in
    omega arith

-- the binary digits of the number of indexes in a tree of h levels above its leaves
digits-tree : (h k n : ℕ) → k ≤ h + 1 → k ≤ 3 → 2 * 6 ^ h ≤ n + 1 → 2 * h + k ≤ digits n
digits-tree zero k n low few many = let digits = digits-power 0 n (omega arith) in omega arith
digits-tree (suc zero) k n low few many = let digits = digits-power 3 n (omega arith) in omega arith
digits-tree (suc (suc zero)) k n low few many = let digits = digits-power 6 n (omega arith) in omega arith
digits-tree (suc (suc (suc h))) k n low few many =
    let power : 6 ^ suc (suc (suc h)) ≡ 6 ^ suc (suc h) * 6 = pow-suc 6 (suc (suc h)) in
    let pos = power_pos (suc (suc h)) in
    let half = digits-half n (omega arith) in
    let quarter = digits-half (n / 2) (omega arith) in
    let rest = digits-tree (suc (suc h)) k (n / 2 / 2) (omega arith) few (omega arith) in
    omega arith

-- four asks in each level are within the bound, and two in each of k leaves are left over
pub reckoning :
    (h k : ℕ) (n : Node)
    → IsFormed h n
    → 1 ≤ length (row n)
    → k ≤ h + 1
    → k ≤ 3
    → row_asks * (h + 1) + 2 * k ≤ bound (length (flat h n))
reckoning h k n f one low few =
    let many = least 1 h n f one in
    let digits = digits-tree h k (length (flat h n)) low few (omega arith) in
    omega arith

pub reckoning-tree :
    (t : Option Node) (h k : ℕ)
    → IsTree t h
    → k ≤ h + 1
    → k ≤ 3
    → walk_asks t h + 2 * k ≤ bound (length (in_order t h))
reckoning-tree None h k e low few = omega arith
reckoning-tree (Some n) h k t low few = reckoning h k n t.0 t.1 low few

-- as many indexes as there are lie in at most twelve levels
pub twelve_levels :
    (h : ℕ) (n : Node)
    → IsFormed h n
    → 1 ≤ length (row n)
    → length (flat h n) ≤ MOST_INDEXES + 1
    → h < most_levels
twelve_levels h n f one few =
    elim (cases_lt h most_levels) [
      | inl low ↦ low
      | inr high ↦
          (let many = least 1 h n f one in
          let more : 6 ^ most_levels ≤ 6 ^ h = pow-le-pow_right (omega arith) {i = most_levels} {j = h} (omega arith) in
          absurd (omega arith))
    ]

-- distinct numbers below n are no more than n
pub few_indexes : (n : ℕ) (xs : List ℕ) → IsDistinct nat_eq xs → All (λ ix. ix < n) xs → length xs ≤ n
few_indexes n xs distinct small = length-le_from_distinct_below xs n distinct (λ q held.
    let at = Any-from_list_any (eqb q) xs held in
    let lt = small at.0 at.1 at.2 in
    omega (arith, at.3, eqb-true q at.1 at.4))
