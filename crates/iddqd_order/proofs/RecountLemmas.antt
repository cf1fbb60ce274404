-- How many inner nodes a removal, and what mends nodes, leave.
use Rattle.iddqd_order.proofs.Names.{◌≡◌, ◌≢◌, ◌∙◌, ℕ, zero, suc, ◌+◌, ◌-◌, ◌<◌, ◌≤◌, List, [], ◌∷◌, ◌++◌, length, set, get_or, remove, min, refl, ap, arith, sub-one, length-set, Node, children, child_room, IsFormed, most_children}
use Rattle.std.proofs.lemmas.List.Edits.{length-remove}
use Rattle.std.proofs.lemmas.List.Sums.{sum_by-set, sum_by-remove, sum_by-append, sum_by-cons, get_or-le-sum_by}
unfoldable use Rattle.iddqd_order.specs.Node.{inners}
use Rattle.iddqd_order.specs.Removal.{inners_of, Recounts}
use Rattle.iddqd_order.specs.Reserve.{Reserved}
use Rattle.iddqd_order.proofs.MendLemmas.{formed-sized}

pub inners-leaf : (h : ℕ) (n : Node) → h ≡ 0 → inners h n ≡ 0
unfolding inners
inners-leaf h n e = rw e

pub inners-inner : (h : ℕ) (n : Node) → h ≢ 0 → inners h n ≡ suc (inners_of (h - 1) (children n))
unfolding inners
inners-inner zero n ne = absurd (ne refl)
inners-inner (suc h) n ne = rw sub-one

pub inners-same : (h : ℕ) (n m : Node) → children m ≡ children n → inners h m ≡ inners h n
unfolding inners
inners-same zero n m e = refl
inners-same (suc h) n m e = ap (λ z. suc (inners_of h z)) e

-- children went from the end of one node to the beginning of another
pub inners-moved : (h : ℕ) (l r new_l new_r : Node) (moved : List Node) → children l ≡ children new_l ++ moved
    → children new_r ≡ moved ++ children r
    → inners h new_l + inners h new_r ≡ inners h l + inners h r
unfolding inners
inners-moved zero l r new_l new_r moved el er = refl
inners-moved (suc h) l r new_l new_r moved el er =
    omega (arith, ap (inners_of h) el, ap (inners_of h) er, sum_by-append (λ k. inners h k) (children new_l) moved, sum_by-append (λ k. inners h k) moved (children r))

-- the children of two nodes became those of one
inners-joined : (h : ℕ) (l r one : Node) → children one ≡ children l ++ children r
    → inners h one + min 1 h ≡ inners h l + inners h r
unfolding inners
inners-joined zero l r one e = refl
inners-joined (suc h) l r one e =
    omega (arith, ap (inners_of h) e, sum_by-append (λ k. inners h k) (children l) (children r))

-- two of the children were changed, and have as many inner nodes as before
pub inners-two_set : (h i j : ℕ) (ks : List Node) (a b new_a new_b : Node) → i < length ks → j < length ks
    → a ≡ get_or ks i a → b ≡ get_or (set ks i new_a) j b → inners h new_a + inners h new_b ≡ inners h a + inners h b
    → inners_of h (set (set ks i new_a) j new_b) ≡ inners_of h ks
inners-two_set h i j ks a b new_a new_b li lj ea eb e =
    omega (arith, sum_by-set (λ k. inners h k) ks i new_a a li, sum_by-set (λ k. inners h k) (set ks i new_a) j new_b b (omega (arith, length-set ks i new_a)), ap (inners h) ea, ap (inners h) eb)

-- the right one of two children was joined to the left one
pub inners-merged : (h i : ℕ) (ks : List Node) (l r one : Node) → i + 1 < length ks → l ≡ get_or (remove ks (i + 1)) i l
    → r ≡ get_or ks (i + 1) r → children one ≡ children l ++ children r
    → inners_of h (set (remove ks (i + 1)) i one) + min 1 h ≡ inners_of h ks
inners-merged h i ks l r one lt el er e =
    omega (arith, sum_by-remove (λ k. inners h k) ks (i + 1) r lt, sum_by-set (λ k. inners h k) (remove ks (i + 1)) i one l (omega (arith, length-remove ks (i + 1) lt)), ap (inners h) el, ap (inners h) er, inners-joined h l r one e)

-- a node has children where it is an inner one
pub children-some : (h : ℕ) (n : Node) → IsFormed h n → min 1 (length (children n)) ≡ min 1 h
children-some zero n f = omega (arith, (formed-sized zero n f).0.count)
children-some (suc h) n f = omega (arith, (formed-sized (suc h) n f).0.count)

pub children-room : (h : ℕ) (n : Node) → IsFormed h n → 0 < length (children n) → most_children ≤ child_room n
children-room zero n f some = absurd (omega (arith, (formed-sized zero n f).0.count))
children-room (suc h) n f some = (formed-sized (suc h) n f).0.has_room

-- a child has fewer inner nodes than its parent
pub child-counted : (h i : ℕ) (n g : Node) → h ≢ 0 → i < length (children n) → g ≡ get_or (children n) i g
    → inners (h - 1) g + 1 ≤ inners h n
child-counted h i n g ne lt is = omega (arith, inners-inner h n ne, get_or-le-sum_by (λ k. inners (h - 1) k) (children n) i g lt, ap (inners (h - 1)) is)

-- there were no inner nodes before, and there are none now
pub unchanged : {was now : ℕ} (r : Reserved) → was ≡ 0 → now ≡ 0 → Recounts r r was now
unchanged r e f = record { inners = omega arith; reserved = refl }

-- the i-th child of a node was changed
pub recounted-below : (h i : ℕ) (old g k : Node) (r s : Reserved) → h ≢ 0 → i < length (children old)
    → g ≡ get_or (children old) i g → Recounts r s (inners (h - 1) g) (inners (h - 1) k)
    → Recounts r s (inners h old) (suc (inners_of (h - 1) (set (children old) i k)))
recounted-below h i old g k r s ne lt is a = record {
  inners = omega (arith, a.inners, inners-inner h old ne, sum_by-set (λ k. inners (h - 1) k) (children old) i k g lt, ap (inners (h - 1)) is);
  reserved = a.reserved;
}

-- and then its children were mended
pub recounted-mended : (h : ℕ) (old new : Node) (ks new_ks : List Node) (r s t : Reserved) → h ≢ 0
    → Recounts r s (inners h old) (suc (inners_of (h - 1) ks))
    → Recounts s t (inners_of (h - 1) ks) (inners_of (h - 1) new_ks) → children new ≡ new_ks
    → Recounts r t (inners h old) (inners h new)
recounted-mended h old new ks new_ks r s t ne a b e = record {
  inners = omega (arith, a.inners, b.inners, inners-inner h new ne, ap (inners_of (h - 1)) e);
  reserved = b.reserved ∙ a.reserved;
}

-- the i-th child was changed, and has as many inner nodes as before
pub inners-set : (h i : ℕ) (n m g k : Node) → h ≢ 0 → i < length (children n) → g ≡ get_or (children n) i g
    → inners (h - 1) k ≡ inners (h - 1) g → children m ≡ set (children n) i k → inners h m ≡ inners h n
inners-set h i n m g k ne lt is same e =
    omega (arith, inners-inner h n ne, inners-inner h m ne, sum_by-set (λ k. inners (h - 1) k) (children n) i k g lt, ap (inners (h - 1)) is, ap (inners_of (h - 1)) e)

-- trees with as many inner nodes, one by one
pub inners-each : (h : ℕ) (ks ls : List Node) → length ls ≡ length ks
    → ((j : ℕ) (d : Node) → j < length ks → inners h (get_or ls j d) ≡ inners h (get_or ks j d))
    → inners_of h ls ≡ inners_of h ks
inners-each h [] [] count each = refl
inners-each h [] (l ∷ ls) count each = absurd (omega arith)
inners-each h (k ∷ ks) [] count each = absurd (omega arith)
inners-each h (k ∷ ks) (l ∷ ls) count each =
    let rest = inners-each h ks ls (omega arith) (λ j d lt. each (suc j) d (omega arith)) in
    omega (arith, rest, each 0 k (omega arith), sum_by-cons (λ k. inners h k) k ks, sum_by-cons (λ k. inners h k) l ls)

-- two nodes whose children have as many, one by one
pub inners-alike :
    (h : ℕ) (n m : Node)
    → length (children m) ≡ length (children n)
    → ((j : ℕ) (d : Node) → j < length (children n) → inners (h - 1) (get_or (children m) j d) ≡ inners (h - 1)
    (get_or (children n) j d))
    → inners h m ≡ inners h n
unfolding inners
inners-alike zero n m count each = refl
inners-alike (suc h) n m count each = ap suc (inners-each h (children n) (children m) count (rw sub-one at each))
