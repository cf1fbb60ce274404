-- What an insert leaves of a tree.
use Rattle.iddqd_order.proofs.Names.{ReachesGapIn, place_in, IsPlaceIn, ReachesIn, place_at_level_in, ◌≡◌, ℕ, ◌+◌, ◌-◌, ◌<◌, ◌≤◌, ◌≢◌, List, [], ◌∷◌, length, refl, ap, ◌∙◌, arith, Option, Some, None, insert, length-insert, All-cons, All-nil, Node, row, children, child_room, flat, IsFormed, ReachesGap, place, in_order, IsTree, IsChild, most_children, most_levels, MOST_INDEXES, Stop, InGap}
use Rattle.iddqd_order.proofs.NodeLemmas.{AreChildren, leaf-formed, flat-leaf, inner-formed, flat-inner, place-within, place_at_level-within}
use Rattle.iddqd_order.proofs.InsertLemmas.{Split}
use Rattle.iddqd_order.proofs.ReckoningLemmas.{twelve_levels}
use Rattle.std.proofs.lemmas.List.Sums.{sum_by-cons}
use Rattle.iddqd_order.specs.Node.{inners}
use Rattle.iddqd_order.specs.Removal.{inners_of}
use Rattle.iddqd_order.proofs.RecountLemmas.{inners-inner}

-- a root at level h, and the indexes of its tree
pub record IsRoot (h : ℕ) (n : Node) (xs : List ℕ) : Type 0 where
  pub low : h < most_levels
  pub formed : IsFormed h n
  pub root : 1 ≤ length (row n)
  pub items : flat h n ≡ xs

pub first_root : (n : Node) (x : ℕ) → row n ≡ x ∷ [] → children n ≡ [] → IsRoot 0 n (x ∷ [])
first_root n x er ek =
    let l = ap length er in
    record {
      low = omega arith;
      formed = leaf-formed 0 n refl (record { within = omega arith; childless = ek });
      root = omega arith;
      items = flat-leaf 0 n refl ∙ er;
    }

-- a new root above the two parts of a root that was split
pub new_root :
    (h : ℕ) (old lower new : Node) (m : ℕ) (upper : Node) (p : List ℕ) (x : ℕ)
    → IsFormed h old
    → ReachesGap h old p
    → Split h old lower m upper p x
    → row new ≡ m ∷ []
    → children new ≡ lower ∷ upper ∷ []
    → most_children ≤ child_room new
    → length (flat h old) ≤ MOST_INDEXES
    → IsRoot (h + 1) new (insert (flat h old) (place h old p) x)
new_root h old lower new m upper p x f g c er ek rm small =
    let ne : h + 1 ≢ 0 = λ z. absurd (omega arith) in
    let same : h + 1 - 1 ≡ h = omega arith in
    let lr = ap length er in
    let lk = ap length ek in
    let below : AreChildren (h + 1 - 1) (children new) =
    rw (same, ek)
    (All-cons (IsChild h) lower (upper ∷ []) c.low (All-cons (IsChild h) upper [] c.high (All-nil (IsChild h)))) in
    let formed : IsFormed (h + 1) new =
    inner-formed (h + 1) new ne (record { within = omega arith; one_more = omega arith; has_room = rm }) below in
    let items : flat (h + 1) new ≡ insert (flat h old) (place h old p) x =
    flat-inner (h + 1) new ne ∙ rw (er, ek, same) c.items in
    let one : 1 ≤ length (row new) = omega arith in
    let len : length (flat (h + 1) new) ≤ MOST_INDEXES + 1 =
    rw items (omega (arith, length-insert (flat h old) (place h old p) x (place-within h old p f g))) in
    record { low = twelve_levels (h + 1) new formed one len; formed = formed; root = one; items = items }

-- it takes a block for each level, and one for the new root
pub new_root-inners :
    (h : ℕ) (old lower new : Node) (m : ℕ) (upper : Node) (p : List ℕ) (x : ℕ)
    → Split h old lower m upper p x
    → children new ≡ lower ∷ upper ∷ []
    → inners (h + 1) new ≡ inners h old + h + 1
new_root-inners h old lower new m upper p x c ek =
    let ne : h + 1 ≢ 0 = λ z. absurd (omega arith) in
    let same : h + 1 - 1 ≡ h = omega arith in
    let below : inners_of (h + 1 - 1) (children new) ≡ inners h lower + inners h upper =
    rw (same, ek)
    (omega (arith, sum_by-cons (λ k. inners h k) lower (upper ∷ []), sum_by-cons (λ k. inners h k) upper [])) in
    let inner = c.inner in
    omega (arith, inners-inner (h + 1) new ne)

-- a tree has at most twelve levels
pub IsTree-low : (r : Option Node) (h : ℕ) → IsTree r h → h < most_levels
IsTree-low None h t = omega arith
IsTree-low (Some n) h t = t.2

-- a path leads to a place in the list
pub place_at_level_in-within :
    (stop : Stop) (l : ℕ) (r : Option Node) (h : ℕ) (p : List ℕ)
    → IsTree r h
    → ReachesIn stop l r h p
    → IsPlaceIn stop (place_at_level_in l r h p) (length (in_order r h))
place_at_level_in-within stop l None h p t w = w
place_at_level_in-within stop l (Some n) h p t w = place_at_level-within l h n p t.0 w

pub place_in-within :
    (r : Option Node) (h : ℕ) (p : List ℕ)
    → IsTree r h
    → ReachesGapIn r h p
    → place_in r h p ≤ length (in_order r h)
place_in-within r h p t g = place_at_level_in-within InGap 0 r h p t g
