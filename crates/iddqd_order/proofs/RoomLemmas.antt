-- An insert below the capacity needs no more blocks than are reserved.
use Rattle.iddqd_order.proofs.Names.{least_in_row, most_levels, indexes_of_a_block, free_indexes}
use Rattle.std.proofs.Common.{All, ◌≡◌, ℕ, zero, suc, ◌+◌, ◌-◌, ◌*◌, ◌<◌, ◌≤◌, List, [], ◌∷◌, true, false, nat_lt, Option, Some, None, length, map, sum_by, get_or, slice_index, arith, inl, inr}
use Rattle.std.proofs.lemmas.Bool.{cases_lt, lt-ltb, le-ltb}
use Rattle.std.proofs.lemmas.List.{length-append}
use Rattle.std.proofs.lemmas.List.Elements.{All-head, All-tail}
use Rattle.std.proofs.lemmas.List.Sums.{sum_by-cons}
use Rattle.iddqd_order.specs.declared.btree_table.node.Node.{Node}
use Rattle.iddqd_order.specs.Node.{row, children, child, weave, flat, inners, IsFormed, Passes, ReachesGap, IsFullBelow}
use Rattle.iddqd_order.specs.MapBTreeTable.{Order, order_of, capacity, spare_blocks, move_blocks}
use Rattle.iddqd_order.specs.Tree.{in_order, inners_in, IsTree, ReachesGapIn, FullIn, blocks_for}
use Rattle.iddqd_order.proofs.InnerLemmas.{wide, inners-below, inners-root}
use Rattle.iddqd_order.proofs.InsertLemmas.{all_full}
use Rattle.iddqd_order.proofs.TableLemmas.{few_blocks}

-- each child has at least thirty indexes for each inner node and five more, and child i has `more` beyond these
wide-more :
    (f : Node → List ℕ) (g : Node → ℕ) (xs : List ℕ) (ns : List Node) (i more : ℕ) (d : Node)
    → length ns ≡ length xs + 1
    → All (λ n. 30 * g n + 5 ≤ length (f n)) ns
    → i < length ns
    → 30 * g (get_or ns i d) + 5 + more ≤ length (f (get_or ns i d))
    → 30 * sum_by g ns + 5 * length ns + length xs + more ≤ length (weave xs (map f ns))
wide-more f g xs [] i more d e a lt le = absurd (omega arith)
wide-more f g [] (n ∷ []) zero more d e a lt le = omega (arith, sum_by-cons g n [])
wide-more f g [] (n ∷ []) (suc i) more d e a lt le = absurd (omega arith)
wide-more f g [] (n ∷ (m ∷ ns)) i more d e a lt le = absurd (omega arith)
wide-more f g (x ∷ xs) (n ∷ ns) zero more d e a lt le =
    let rest = wide f g xs ns (omega arith) (All-tail (λ n. 30 * g n + 5 ≤ length (f n)) n ns a) in
    omega (arith, sum_by-cons g n ns, length-append (f n) (x ∷ weave xs (map f ns)))
wide-more f g (x ∷ xs) (n ∷ ns) (suc i) more d e a lt le =
    let h = All-head (λ n. 30 * g n + 5 ≤ length (f n)) n ns a in
    let rest =
    wide-more f g xs ns i more d (omega arith) (All-tail (λ n. 30 * g n + 5 ≤ length (f n)) n ns a)
    (omega arith) le in
    omega (arith, sum_by-cons g n ns, length-append (f n) (x ∷ weave xs (map f ns)))

-- a bound on the inner nodes of the child that the path takes gives one for the node
widened :
    (h k : ℕ) (n : Node) (p : List ℕ)
    → IsFormed (suc h) n
    → ReachesGap (suc h) n p
    → 1 ≤ k
    → 30 * (inners h (child n (slice_index p (suc h))) + k) ≤ length (flat h (child n (slice_index p (suc h)))) + 20
    → 30 * (inners (suc h) n + k) + 6 * length (row n) ≤ length (flat (suc h) n) + 50
unfolding inners flat IsFormed Passes
widened h k n p f g some le =
    let one = f.0.one_more in
    let w =
    wide-more (λ k. flat h k) (λ k. inners h k) (row n) (children n) (slice_index p (suc h)) (30 * k - 25) n one
    (λ i d lt. let e = f.1 i d lt in inners-below h _ e.1 e.0) (g.passes.2 (omega arith)).0 (omega arith) in
    omega arith

-- a node below the root, with the full nodes of a path that goes through it
path-full :
    (h k : ℕ) (n : Node) (p : List ℕ)
    → IsFormed h n
    → least_in_row ≤ length (row n)
    → ReachesGap h n p
    → 1 ≤ k
    → k ≤ h + 1
    → IsFullBelow k h n p
    → 30 * (inners h n + k) ≤ length (flat h n) + 20
unfolding inners flat IsFormed Passes IsFullBelow
path-full zero k n p f five g some le full = let eleven = full.0 (omega arith) in omega arith
path-full (suc h) k n p f five g some le full =
    let down = g.passes.2 (omega arith) in
    let on : ReachesGap h (child n (slice_index p (suc h))) p = record { passes = down.1 } in
    let below = f.1 (slice_index p (suc h)) n down.0 in
    elim (cases_lt (h + 1) k) [
      | inl lt ↦
          (let eleven = full.0.0 (omega arith) in
          let ih =
          path-full h (h + 1) (child n (slice_index p (suc h))) p below.1 below.0 on (omega arith) (omega arith)
          (all_full k (h + 1) h _ p (omega arith) (omega arith) full.1) in
          let w = widened h (h + 1) n p f g (omega arith) ih in omega arith)
      | inr ge ↦
          (let ih = path-full h k (child n (slice_index p (suc h))) p below.1 below.0 on some (omega arith) full.1 in
          let w = widened h k n p f g some ih in omega arith)
    ]

-- how many blocks an insert takes, where all nodes on its path are full and where not
blocks-all : (h k : ℕ) → h < k → blocks_for h k ≡ k
blocks-all h k lt = let t : nat_lt h k ≡ true = lt-ltb h k lt in rw t

blocks-some : (h k : ℕ) → k ≤ h → blocks_for h k ≡ k - 1
blocks-some h k le = let t : nat_lt h k ≡ false = le-ltb h k le in rw t

-- a root, with all blocks that the insert takes
root-full :
    (h k : ℕ) (n : Node) (p : List ℕ)
    → IsFormed h n
    → 1 ≤ length (row n)
    → ReachesGap h n p
    → k ≤ h + 1
    → IsFullBelow k h n p
    → 30 * (inners h n + blocks_for h k) ≤ length (flat h n) + 20
unfolding IsFormed Passes IsFullBelow
root-full h zero n p f one g le full = let few = inners-root h n f one in omega (arith, blocks-some h 0 (omega arith))
root-full zero (suc k) n p f one g le full =
    let w = path-full zero (suc k) n p f (let eleven = full.0 (omega arith) in omega arith) g (omega arith) le full in
    omega (arith, blocks-all zero (suc k) (omega arith))
root-full (suc h) (suc k) n p f one g le full =
    elim (cases_lt (suc h) (suc k)) [
      | inl lt ↦ (let w = path-full (suc h) (suc k) n p f (let eleven = full.0.0 lt in omega arith) g (omega arith) le full in omega (arith, blocks-all (suc h) (suc k) lt))
      | inr ge ↦
          (let down = g.passes.2 (omega arith) in
          let below = f.1 (slice_index p (suc h)) n down.0 in
          let ih =
          path-full h (suc k) (child n (slice_index p (suc h))) p below.1 below.0 (record { passes = down.1 })
          (omega arith) (omega arith) full.1 in
          let w = widened h (suc k) n p f g (omega arith) ih in omega (arith, blocks-some (suc h) (suc k) ge))
    ]

-- below the capacity, an insert needs no block but those that lie beside the tree
pub none-fresh :
    (r : Option Node) (h blocks k : ℕ) (p : List ℕ)
    → IsTree r h
    → ReachesGapIn r h p
    → FullIn k r h p
    → k ≤ h + 1
    → length (in_order r h) < indexes_of_a_block * blocks + free_indexes
    → blocks_for h k - (blocks - inners_in r h) ≡ 0
none-fresh None h blocks k p t g full le lt = rw (t, full) (omega arith)
none-fresh (Some n) h blocks k p t g full le lt = let w = root-full h k n p t.0 t.1 g le full in omega arith

-- up to the capacity a move takes no block, and past it one for each level and one for a new root
pub move-none : (t : Order) → length (order_of t) ≤ capacity t → move_blocks t ≡ 0
move-none t le =
    let b : nat_lt (capacity t) (length (order_of t)) ≡ false = le-ltb (capacity t) (length (order_of t)) le in rw b

pub move-most : (t : Order) → capacity t < length (order_of t) → move_blocks t ≡ t.height + 1
move-most t lt =
    let b : nat_lt (capacity t) (length (order_of t)) ≡ true = lt-ltb (capacity t) (length (order_of t)) lt in rw b

pub move-few : (t : Order) → t.height < most_levels → move_blocks t ≤ most_levels
move-few t low = elim (cases_lt (capacity t) (length (order_of t))) [ inl lt ↦ omega (arith, move-most t lt) | inr le ↦ omega (arith, move-none t le) ]

-- what an insert takes is there: below the capacity beside the tree, and else in the blocks of a move
pub enough-blocks :
    (t : Order) (k blocks : ℕ) (p : List ℕ)
    → IsTree t.root t.height
    → ReachesGapIn t.root t.height p
    → FullIn k t.root t.height p
    → k ≤ t.height + 1
    → (capacity t ≤ length (order_of t) → t.height < blocks)
    → blocks_for t.height k ≤ spare_blocks t + blocks
unfolding order_of capacity
enough-blocks t k blocks p tree goes full le most =
    elim (cases_lt (length (order_of t)) (capacity t)) [
      | inl lt ↦ omega (arith, none-fresh t.root t.height t.reserved k p tree goes full le lt)
      | inr ge ↦ (let all = most ge in omega (arith, few_blocks t.height k le))
    ]
