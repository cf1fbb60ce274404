-- One level of a tree at a time, and of a path down it.
use Rattle.iddqd_order.proofs.Names.{true, false, ◌∙◌, sym, slice_set, get_or-set_same, get_or-set_other, nat_eq, eq-eqb, ne_eqb, cases_eq, inl, inr, IsPlaceIn, Passes, Reaches, ReachesIndex, place_at_level, ◌≡◌, ℕ, zero, suc, ◌+◌, ◌-◌, ◌<◌, ◌≤◌, ◌≢◌, List, [], ◌∷◌, length, get_or, map, slice_index, refl, ap, arith, sub-one, All, vec_capacity, insert, length-map, get_or-map, All-permutation, IsPermutation-insert, All-cons, Node, Node-F, roll-Node, out-roll-Node, row, children, child, child_room, weave, before, flat, IsInner, IsLeaf, IsFormed, ReachesGap, place, FullBelow, IsFullBelow, most_in_row, least_in_row, most_children, most_levels, Stop, AtIndex, InGap}
use Rattle.iddqd_order.proofs.WeaveLemmas.{within, index_place}
use Rattle.iddqd_order.proofs.WeaveRemovalLemmas.{weave-within, weave-within_at}

-- what the children of a node at level h + 1 are
abbrev pub AreChildren : ℕ → List Node → Type 0
AreChildren h ks = All (λ k. (least_in_row ≤ length (row k)) × IsFormed h k) ks

-- their lists
abbrev pub lists : ℕ → List Node → List (List ℕ)
lists h ks = map (λ k. flat h k) ks

-- at a leaf
pub formed-leaf : (h : ℕ) (n : Node) → h ≡ 0 → IsFormed h n → IsLeaf n
unfolding IsFormed
formed-leaf h n e f = rw e at f

pub leaf-formed : (h : ℕ) (n : Node) → h ≡ 0 → IsLeaf n → IsFormed h n
unfolding IsFormed
leaf-formed h n e f = rw e f

pub flat-leaf : (h : ℕ) (n : Node) → h ≡ 0 → flat h n ≡ row n
unfolding flat
flat-leaf h n e = rw e

-- at an inner node
pub record InnerAt (h : ℕ) (n : Node) : Type 0 where
  pub inner : IsInner n
  pub below : AreChildren (h - 1) (children n)

pub formed-inner : (h : ℕ) (n : Node) → h ≢ 0 → IsFormed h n → InnerAt h n
unfolding IsFormed
formed-inner zero n e f = absurd (e refl)
formed-inner (suc h) n e f = record { inner = f.0; below = rw sub-one f.1 }

pub inner-formed : (h : ℕ) (n : Node) → h ≢ 0 → IsInner n → AreChildren (h - 1) (children n) → IsFormed h n
unfolding IsFormed
inner-formed zero n e i b = absurd (e refl)
inner-formed (suc h) n e i b = (i, rw sub-one at b)

pub formed-within : (h : ℕ) (n : Node) → IsFormed h n → length (row n) ≤ most_in_row
unfolding IsFormed
formed-within zero n f = f.within
formed-within (suc h) n f = f.0.within

pub flat-inner : (h : ℕ) (n : Node) → h ≢ 0 → flat h n ≡ weave (row n) (lists (h - 1) (children n))
unfolding flat
flat-inner zero n e = absurd (e refl)
flat-inner (suc h) n e = rw sub-one

-- one list more than indexes, each that of a child
pub lists-one_more :
    (h : ℕ) (n : Node)
    → h ≢ 0
    → IsFormed h n
    → length (lists (h - 1) (children n)) ≡ length (row n) + 1
lists-one_more h n ne f =
    let one = (formed-inner h n ne f).inner.one_more in omega (arith, length-map (children n) (λ k. flat (h - 1) k))

pub lists-at :
    (h : ℕ) (n : Node) (i : ℕ)
    → i < length (children n)
    → get_or (lists h (children n)) i [] ≡ flat h (child n i)
lists-at h n i lt = get_or-map (λ k. flat h k) (children n) i n [] lt

-- a node above the leaves has a child at each place of its row, and one behind it
pub child-within : (l : ℕ) (n : Node) (i : ℕ) → l ≢ 0 → IsFormed l n → i ≤ length (row n) → i < length (children n)
child-within l n i ne f le = let one = (formed-inner l n ne f).inner.one_more in omega arith

pub child-formed :
    (h : ℕ) (n : Node) (i : ℕ)
    → h ≢ 0
    → IsFormed h n
    → i < length (children n)
    → IsFormed (h - 1) (child n i)
child-formed h n i ne f lt = ((formed-inner h n ne f).below i n lt).1

pub child-least :
    (h : ℕ) (n : Node) (i : ℕ)
    → h ≢ 0
    → IsFormed h n
    → i < length (children n)
    → least_in_row ≤ length (row (child n i))
child-least h n i ne f lt = ((formed-inner h n ne f).below i n lt).0

pub full-on :
    (k h : ℕ) (n : Node) (p : List ℕ)
    → h ≢ 0
    → IsFullBelow k h n p
    → IsFullBelow k (h - 1) (child n (slice_index p h)) p
unfolding IsFullBelow
full-on k zero n p e f = absurd (e refl)
full-on k (suc h) n p e f = rw sub-one f.1

pub full-here : (k h : ℕ) (n : Node) (p : List ℕ) → IsFullBelow k h n p → FullBelow k h n
unfolding IsFullBelow
full-here k zero n p f = f
full-here k (suc h) n p f = f.0

pub map-insert :
    {X Y : Type 0}
    → (f : X → Y) (xs : List X) (i : ℕ) (x : X)
    → map f (insert xs i x) ≡ insert (map f xs) i (f x)
map-insert f [] zero x = refl
map-insert f [] (suc i) x = refl
map-insert f (y ∷ xs) zero x = refl
map-insert f (y ∷ xs) (suc i) x = ap (λ z. f y ∷ z) (map-insert f xs i x)

pub All-insert : {X : Type 0} → (P : X → Type 0) (xs : List X) (i : ℕ) (x : X) → All P xs → P x → All P (insert xs i x)
All-insert P xs i x a p = All-permutation P (x ∷ xs) (insert xs i x) (IsPermutation-insert xs i x) (All-cons P x xs p a)

-- a node just made
pub row-roll : (r : Node-F Node) → row (roll-Node r) ≡ r.row
row-roll r = ap (λ z. z.row) (out-roll-Node r)

pub children-roll : (r : Node-F Node) → children (roll-Node r) ≡ r.children.items
children-roll r = ap (λ z. z.children.items) (out-roll-Node r)

pub room-roll : (r : Node-F Node) → child_room (roll-Node r) ≡ vec_capacity r.children
room-roll r = ap (λ z. vec_capacity z.children) (out-roll-Node r)

pub room-from : (r : Node-F Node) → most_children ≤ vec_capacity r.children → most_children ≤ child_room (roll-Node r)
room-from r h = rw room-roll h

-- what a write to a path leaves
pub path-here :
    (p q : List ℕ) (l i : ℕ)
    → length p ≡ most_levels
    → l < most_levels
    → q ≡ slice_set p l i
    → slice_index q l ≡ i
path-here p q l i len le e = ap (λ z. slice_index z l) e ∙ get_or-set_same p l i 0 (omega arith)

pub path-above : (p q : List ℕ) (l i m : ℕ) → q ≡ slice_set p l i → l < m → slice_index q m ≡ slice_index p m
path-above p q l i m e lt = ap (λ z. slice_index z m) e ∙ get_or-set_other p l m i 0 (λ same. absurd (omega arith))

-- a path that goes down to a level, one level at a time
pub record HoldsBelow (stop : Stop) (l h : ℕ) (n : Node) (p : List ℕ) : Type 0 where
  pub here : slice_index p h < length (children n)
  pub on : Reaches stop l (h - 1) (child n (slice_index p h)) p

module _ {stop : Stop} where
  pub holds-leaf :
      (l h : ℕ) (n : Node) (p : List ℕ)
      → h ≡ 0
      → Reaches stop l h n p
      → IsPlaceIn stop (slice_index p 0) (length (row n))
  unfolding Passes
  holds-leaf l h n p e w = (rw e at w.passes).1

  pub holds-at :
      (l h : ℕ) (n : Node) (p : List ℕ)
      → h ≢ 0
      → h ≡ l
      → Reaches stop l h n p
      → IsPlaceIn stop (slice_index p h) (length (row n))
  unfolding Passes
  holds-at l zero n p ne e w = absurd (ne refl)
  holds-at l (suc h) n p ne e w = w.passes.1 (sym e)

  pub holds-level : (l h : ℕ) (n : Node) (p : List ℕ) → Reaches stop l h n p → l ≤ h
  unfolding Passes
  holds-level l zero n p w = w.passes.0
  holds-level l (suc h) n p w = w.passes.0

  pub holds-below : (l h : ℕ) (n : Node) (p : List ℕ) → h ≢ 0 → h ≢ l → Reaches stop l h n p → HoldsBelow stop l h n p
  unfolding Passes
  holds-below l zero n p ne e w = absurd (ne refl)
  holds-below l (suc h) n p ne e w =
      let le : l ≤ suc h = w.passes.0 in
      let q = w.passes.2 (omega arith) in
      record { here = q.0; on = rw sub-one (record { passes = q.1 }) }

  -- a path to an index below the node
  pub below-holds :
      (m l : ℕ) (n : Node) (p : List ℕ)
      → l ≢ 0
      → slice_index p l < length (children n)
      → Reaches stop m (l - 1) (child n (slice_index p l)) p
      → Reaches stop m l n p
  unfolding Passes
  below-holds m zero n p ne lt h = absurd (ne refl)
  below-holds m (suc l) n p ne lt h =
      let below = rw sub-one at h in
      let le = holds-level m l (child n (slice_index p (suc l))) p below in
      record { passes = (omega arith, λ e. absurd (omega arith), λ _. (lt, below.passes)) }

-- and one that ends at the node itself
pub reaches-here :
    (stop : Stop) (l : ℕ) (n : Node) (p : List ℕ)
    → IsPlaceIn stop (slice_index p l) (length (row n))
    → Reaches stop l l n p
unfolding Passes
reaches-here stop zero n p fits = record { passes = (omega arith, fits) }
reaches-here stop (suc h) n p fits = record { passes = (omega arith, λ _. fits, λ le. absurd (omega arith)) }

pub holds-here : (l : ℕ) (n : Node) (p : List ℕ) → slice_index p l < length (row n) → ReachesIndex l l n p
holds-here l n p lt = reaches-here AtIndex l n p lt

pub place_at_level-leaf : (l h : ℕ) (n : Node) (p : List ℕ) → h ≡ 0 → place_at_level l h n p ≡ slice_index p 0
unfolding place_at_level
place_at_level-leaf l h n p e = rw e

pub place_at_level-at :
    (l h : ℕ) (n : Node) (p : List ℕ)
    → h ≢ 0
    → h ≡ l
    → place_at_level l h n p
    ≡ length (before (slice_index p h) (row n) (lists (h - 1) (children n)))
    + length (flat (h - 1) (child n (slice_index p h)))
unfolding place_at_level
place_at_level-at l zero n p ne e = absurd (ne refl)
place_at_level-at l (suc h) n p ne e = let t : nat_eq l (suc h) ≡ true = eq-eqb l (suc h) (sym e) in rw (t, sub-one)

pub place_at_level-below :
    (l h : ℕ) (n : Node) (p : List ℕ)
    → h ≢ 0
    → h ≢ l
    → place_at_level l h n p
    ≡ length (before (slice_index p h) (row n) (lists (h - 1) (children n)))
    + place_at_level l (h - 1) (child n (slice_index p h)) p
unfolding place_at_level
place_at_level-below l zero n p ne e = absurd (ne refl)
place_at_level-below l (suc h) n p ne e =
    let t : nat_eq l (suc h) ≡ false = ne_eqb l (suc h) (λ z. e (sym z)) in rw (t, sub-one)

-- a place of a row, and one of a list between its indexes, is one of the whole list
IsPlaceIn-le : (stop : Stop) (i count : ℕ) → IsPlaceIn stop i count → i ≤ count
IsPlaceIn-le AtIndex i count lt = omega arith
IsPlaceIn-le InGap i count le = le

IsPlaceIn-row :
    (stop : Stop) (i : ℕ) (xs : List ℕ) (ks : List (List ℕ))
    → length ks ≡ length xs + 1
    → IsPlaceIn stop i (length xs)
    → IsPlaceIn stop (index_place i xs ks) (length (weave xs ks))
IsPlaceIn-row AtIndex i xs ks one lt = weave-within_at i xs ks [] lt one
IsPlaceIn-row InGap i xs ks one le = within i xs ks [] (length (get_or ks i [])) (omega arith) one (omega arith)

IsPlaceIn-list :
    (stop : Stop) (i : ℕ) (xs : List ℕ) (ks : List (List ℕ)) (q : ℕ)
    → length ks ≡ length xs + 1
    → i < length ks
    → IsPlaceIn stop q (length (get_or ks i []))
    → IsPlaceIn stop (length (before i xs ks) + q) (length (weave xs ks))
IsPlaceIn-list AtIndex i xs ks q one lt low = weave-within i xs ks [] q lt one low
IsPlaceIn-list InGap i xs ks q one lt low = within i xs ks [] q lt one low

-- an index or gap to which a path goes is a place in the list
pub place_at_level-within :
    {stop : Stop} (l h : ℕ) (n : Node) (p : List ℕ)
    → IsFormed h n
    → Reaches stop l h n p
    → IsPlaceIn stop (place_at_level l h n p) (length (flat h n))
unfolding Passes place_at_level flat IsFormed
place_at_level-within l zero n p f w = w.passes.1
place_at_level-within {stop = stop} l (suc h) n p f w =
    let i : ℕ = slice_index p (suc h) in
    let ks : List (List ℕ) = lists h (children n) in
    let len = length-map (children n) (λ k. flat h k) in
    let om = f.0.one_more in
    elim (cases_eq l (suc h)) [
      | inl e ↦
          (let t : nat_eq l (suc h) ≡ true = eq-eqb l (suc h) e in
          let le = IsPlaceIn-le stop i (length (row n)) (w.passes.1 e) in
          rw t (rw (lists-at h n i (omega arith)) at (IsPlaceIn-row stop i (row n) ks (omega arith) (w.passes.1 e))))
      | inr e ↦
          (let t : nat_eq l (suc h) ≡ false = ne_eqb l (suc h) e in
          let le = w.passes.0 in
          let down = w.passes.2 (omega arith) in
          let below =
          place_at_level-within {stop = stop} l h (child n i) p (f.1 i n down.0).1 (record { passes = down.1 }) in
          rw t (IsPlaceIn-list stop i (row n) ks (place_at_level l h (child n i) p) (omega arith) (omega arith) (rw (lists-at h n i down.0) below)))
    ]

-- a path goes on into the i-th child
pub record GoesDown (stop : Stop) (h l i : ℕ) (n : Node) (p : List ℕ) : Type 0 where
  pub inner : h ≢ 0
  pub here : i < length (children n)
  pub five : least_in_row ≤ length (row (child n i))
  pub formed : IsFormed (h - 1) (child n i)
  pub holds : Reaches stop l (h - 1) (child n i) p
  pub within : IsPlaceIn stop (place_at_level l (h - 1) (child n i) p) (length (flat (h - 1) (child n i)))
  pub place : place_at_level l h n p
      ≡ length (before i (row n) (lists (h - 1) (children n))) + place_at_level l (h - 1) (child n i) p

abbrev pub GoesBelow : ℕ → ℕ → ℕ → Node → List ℕ → Type 0
GoesBelow h l i n p = GoesDown AtIndex h l i n p

pub goes-below :
    {stop : Stop} (h l i : ℕ) (n : Node) (p : List ℕ)
    → l < h
    → i ≡ slice_index p h
    → IsFormed h n
    → Reaches stop l h n p
    → GoesDown stop h l i n p
goes-below {stop = stop} h l i n p lt ei f w =
    let ne : h ≢ 0 = λ e. absurd (omega arith) in
    let other : h ≢ l = λ e. absurd (omega arith) in
    let down = holds-below l h n p ne other w in
    let here : i < length (children n) = rw ei down.here in
    let on : Reaches stop l (h - 1) (child n i) p = rw ei down.on in
    let below = (formed-inner h n ne f).below i n here in
    record {
      inner = ne;
      here = here;
      five = below.0;
      formed = below.1;
      holds = on;
      within = place_at_level-within l (h - 1) (child n i) p below.1 on;
      place = rw ei (place_at_level-below l h n p ne other);
    }

-- the same of a gap
pub goes-leaf : (h : ℕ) (n : Node) (p : List ℕ) → h ≡ 0 → ReachesGap h n p → slice_index p 0 ≤ length (row n)
goes-leaf h n p e g = holds-leaf 0 h n p e g

pub goes-inner : (h : ℕ) (n : Node) (p : List ℕ) → h ≢ 0 → ReachesGap h n p → HoldsBelow InGap 0 h n p
goes-inner h n p ne g = holds-below 0 h n p ne ne g

pub place-leaf : (h : ℕ) (n : Node) (p : List ℕ) → h ≡ 0 → place h n p ≡ slice_index p 0
place-leaf h n p e = place_at_level-leaf 0 h n p e

pub place-inner :
    (h : ℕ) (n : Node) (p : List ℕ)
    → h ≢ 0
    → place h n p ≡ length (before (slice_index p h) (row n) (lists (h - 1) (children n))) + place (h - 1)
    (child n (slice_index p h)) p
place-inner h n p ne = place_at_level-below 0 h n p ne ne

pub place-within : (h : ℕ) (n : Node) (p : List ℕ) → IsFormed h n → ReachesGap h n p → place h n p ≤ length (flat h n)
place-within h n p f g = place_at_level-within 0 h n p f g
