-- A gap of a tree and the gaps beside it, one level at a time, and what a walk has left between two gaps.
use Rattle.iddqd_order.proofs.Names.{◌≡◌, ◌≢◌, ◌↔◌, ◌∙◌, ℕ, zero, suc, ◌+◌, ◌-◌, ◌<◌, ◌≤◌, List, [], ◌∷◌, ◌++◌, End, Front, Back, opposite, Option, Some, None, IfSome, length, take, drop, get_or, length-set, set-get_or, slice_index, slice_set, refl, sym, ap, subst, arith, sub-one, append-nil, drop_all, length-append, length-drop, length-map, length-take-le, slice_get-get_or, cases_lt, inl, inr, Compares, Ordering, Less, Equal, Greater, Node, row, children, child, before, flat, IsFormed, ReachesGap, place, in_order, IsTree, place_in, Agree, AreBeside, AtEdge, StepsOver, IsAt, IsBehind, IsGap, IsLeafParent, Steps, next_behind, edge_of, leaf, leaf_parent, to_gap, most_in_row, most_levels, InGap}
use Rattle.std.proofs.Common.{get_or-drop}
use Rattle.std.proofs.Math.Seq.{drop-cons, take-suc}
use Rattle.std.proofs.lemmas.Option.{slice_get_past}
use Rattle.std.specs.Borrow.{Bor}
use Rattle.std.specs.Iterator.{YieldsFirst, YieldsLast}
use Rattle.std.specs.List.{slice_get}
use Rattle.iddqd_order.proofs.DescentLemmas.{after-last, before-next, child-read, child_is, path-above, path-here, row-woven}
use Rattle.iddqd_order.proofs.NodeLemmas.{lists, lists-one_more, lists-at, child-within, child-formed, formed-within, flat-leaf, flat-inner, place-leaf, place-within, goes-leaf, goes-inner, below-holds, reaches-here, place-inner}
use Rattle.iddqd_order.proofs.WeaveLemmas.{apart, index_place, within}

-- a path goes on below the i-th child, which was read as k
pub record Below (h i : ℕ) (n k : Node) (p : List ℕ) : Type 0 where
  pub here : i < length (children n)
  pub is : k ≡ child n i
  pub formed : IsFormed (h - 1) k
  pub goes : ReachesGap (h - 1) k p

pub goes-here :
    (h i : ℕ) (n : Node) (p : List ℕ)
    → h ≢ 0
    → i ≡ slice_index p h
    → ReachesGap h n p
    → i < length (children n)
goes-here h i n p ne e g = rw e (goes-inner h n p ne g).here

pub goes-in :
    (h i : ℕ) (n k : Node) (p : List ℕ)
    → h ≢ 0
    → i ≡ slice_index p h
    → IsFormed h n
    → ReachesGap h n p
    → k ≡ get_or (children n) i k
    → Below h i n k p
goes-in h i n k p ne e f g is_k =
    let here = goes-here h i n p ne e g in
    let is = child_is n i k here is_k in
    record {
      here = here;
      is = is;
      formed = rw is (child-formed h n i ne f here);
      goes = rw (is, e) (goes-inner h n p ne g).on;
    }

-- conversely, a path that goes on below the i-th child goes to a gap of the whole
pub goes-at :
    (h i : ℕ) (n : Node) (p : List ℕ)
    → h ≢ 0
    → slice_index p h ≡ i
    → i < length (children n)
    → ReachesGap (h - 1) (child n i) p
    → ReachesGap h n p
goes-at h i n p ne e here on = below-holds 0 h n p ne (rw e here) (rw e on)

pub place-at :
    (h i : ℕ) (n : Node) (p : List ℕ)
    → h ≢ 0
    → slice_index p h ≡ i
    → place h n p ≡ length (before i (row n) (lists (h - 1) (children n))) + place (h - 1) (child n i) p
place-at h i n p ne e = rw (← e) (place-inner h n p ne)

pub leaf-at : (h i : ℕ) (n : Node) (p : List ℕ) → h ≢ 0 → slice_index p h ≡ i → leaf h n p ≡ leaf (h - 1) (child n i) p
unfolding leaf
leaf-at zero i n p ne e = absurd (ne refl)
leaf-at (suc h) i n p ne e = rw (← e, sub-one)

pub leaf-zero : (h : ℕ) (n : Node) (p : List ℕ) → h ≡ 0 → leaf h n p ≡ row n
unfolding leaf
leaf-zero zero n p e = refl
leaf-zero (suc h) n p e = absurd (omega arith)

-- the node above a leaf
pub leaf_parent-one : (h : ℕ) (n : Node) (p : List ℕ) → h ≡ 1 → leaf_parent h n p ≡ n
unfolding leaf_parent
leaf_parent-one zero n p e = absurd (omega arith)
leaf_parent-one (suc zero) n p e = refl
leaf_parent-one (suc (suc h)) n p e = absurd (omega arith)

pub leaf_parent-here : (h : ℕ) (n : Node) (p : List ℕ) → h ≡ 0 → leaf_parent h n p ≡ n
unfolding leaf_parent
leaf_parent-here zero n p e = refl
leaf_parent-here (suc h) n p e = absurd (omega arith)

pub leaf_parent-at : (h i : ℕ) (n : Node) (p : List ℕ) → 2 ≤ h → slice_index p h ≡ i
    → leaf_parent h n p ≡ leaf_parent (h - 1) (child n i) p
unfolding leaf_parent
leaf_parent-at zero i n p ge e = absurd (omega arith)
leaf_parent-at (suc zero) i n p ge e = absurd (omega arith)
leaf_parent-at (suc (suc h)) i n p ge e = rw (← e, sub-one)

pub leaf_parent-above : (h i : ℕ) (n : Node) (p : List ℕ) (k : Option (Bor Node)) → 2 ≤ h → slice_index p h ≡ i
    → IfSome k (λ k. (0 < h - 1) × (k.now ≡ leaf_parent (h - 1) (child n i) p))
    → IfSome k (λ k. (0 < h) × (k.now ≡ leaf_parent h n p))
leaf_parent-above h i n p None ge e is = tt
leaf_parent-above h i n p (Some k) ge e is = (omega arith, is.1 ∙ sym (leaf_parent-at h i n p ge e))

pub edge-within : (end : End) (count i : ℕ) → i ≡ edge_of end count → i ≤ count
edge-within Back count i e = omega arith
edge-within Front count i e = omega arith

pub beside-within :
    (towards : End) (count i : ℕ) (r : ℕ × ℕ)
    → AreBeside towards count i (Some r)
    → (r.0 < count) × (r.1 ≤ count)
beside-within Back count i r b = let at = b.0 in let to = b.2 in (at, omega arith)
beside-within Front count i r b = let at = b.0 in let to = b.2 in (at, omega arith)

-- the index at a place of the i-th list
behind-below :
    (h i j ix : ℕ) (n : Node)
    → h ≢ 0
    → IsFormed h n
    → i < length (children n)
    → IsBehind (flat (h - 1) (child n i)) j ix
    → IsBehind (flat h n) (length (before i (row n) (lists (h - 1) (children n))) + j) ix
behind-below h i j ix n ne f here b =
    let inside =
    within i (row n) (lists (h - 1) (children n)) [] (suc j)
    (omega (arith, length-map (children n) (λ k. flat (h - 1) k))) (lists-one_more h n ne f)
    (rw (lists-at (h - 1) n i here) (omega (arith, b.0))) in
    (rw (flat-inner h n ne) (omega arith), b.1 ∙ sym (child-read h n i j ne f here b.0))

-- a step below the i-th child is one in the whole
steps-below :
    (towards : End) (h i ix : ℕ) (n : Node) (p q : List ℕ)
    → h ≢ 0
    → IsFormed h n
    → i < length (children n)
    → slice_index p h ≡ i
    → slice_index q h ≡ i
    → Steps towards (flat (h - 1) (child n i)) (place (h - 1) (child n i) p) (Some ix) (place (h - 1) (child n i) q)
    → Steps towards (flat h n) (place h n p) (Some ix) (place h n q)
steps-below Back h i ix n p q ne f here ep eq s =
    let at = place-at h i n p ne ep in let to = place-at h i n q ne eq in let one = s.1 in
    (rw at (behind-below h i _ ix n ne f here s.0), omega arith)
steps-below Front h i ix n p q ne f here ep eq s =
    let at = place-at h i n p ne ep in let to = place-at h i n q ne eq in let one = s.1 in
    (rw to (behind-below h i _ ix n ne f here s.0), omega arith)

-- the last gap of a node is that of its last child, and the first one that of its first
pub edge-inner :
    (end : End) (h i : ℕ) (n : Node) (p : List ℕ)
    → h ≢ 0
    → IsFormed h n
    → i < length (children n)
    → slice_index p h ≡ i
    → i ≡ edge_of end (length (row n))
    → place (h - 1) (child n i) p ≡ edge_of end (length (flat (h - 1) (child n i)))
    → place h n p ≡ edge_of end (length (flat h n))
edge-inner Back h i n p ne f here ep ei on =
    let xs : List ℕ = row n in let ks : List (List ℕ) = lists (h - 1) (children n) in
    let one = lists-one_more h n ne f in
    let whole : flat h n ≡ before i xs ks ++ (get_or ks i [] ++ []) =
    flat-inner h n ne ∙ apart i xs ks [] (omega arith) one
    ∙ ap (λ z. before i xs ks ++ (get_or ks i [] ++ z)) (after-last i xs ks (omega arith) one) in
    let all : length (flat h n) ≡ length (before i xs ks) + length (flat (h - 1) (child n i)) =
    ap length whole ∙ length-append (before i xs ks) (get_or ks i [] ++ [])
    ∙ ap (λ z. length (before i xs ks) + length z) (append-nil (get_or ks i []) ∙ lists-at (h - 1) n i here) in
    let at = place-at h i n p ne ep in
    omega arith
edge-inner Front h i n p ne f here ep ei on =
    let none : length (before i (row n) (lists (h - 1) (children n))) ≡ 0 = rw ei refl in
    let at = place-at h i n p ne ep in
    omega arith

edge-leaf :
    (end : End) (h i : ℕ) (n : Node) (p : List ℕ)
    → h ≡ 0
    → slice_index p h ≡ i
    → i ≡ edge_of end (length (row n))
    → place h n p ≡ edge_of end (length (flat h n))
edge-leaf end h i n p e ep ei =
    place-leaf h n p e ∙ ap (slice_index p) (sym e) ∙ ep ∙ ei ∙ ap (λ z. edge_of end (length z)) (sym (flat-leaf h n e))

pub at_edge-leaf :
    (end : End) (h i : ℕ) (n : Node) (xs p : List ℕ)
    → h ≡ 0
    → slice_index p h ≡ i
    → i ≡ edge_of end (length (row n))
    → xs ≡ row n
    → AtEdge end h n xs p
at_edge-leaf end h i n xs p e ep ei ex =
    let within = edge-within end (length (row n)) i ei in
    let here = ap (slice_index p) (sym e) ∙ ep in
    record {
      goes = rw e (reaches-here InGap 0 n p (omega arith));
      place_is = edge-leaf end h i n p e ep ei;
      leaf_is = ex ∙ sym (leaf-zero h n p e);
    }

pub at_edge-inner :
    (end : End) (h i : ℕ) (n k : Node) (xs p : List ℕ)
    → h ≢ 0
    → IsFormed h n
    → i < length (children n)
    → k ≡ child n i
    → slice_index p h ≡ i
    → i ≡ edge_of end (length (row n))
    → AtEdge end (h - 1) k xs p
    → AtEdge end h n xs p
at_edge-inner end h i n k xs p ne f here is ep ei on =
    record {
      goes = goes-at h i n p ne ep here (rw is at on.goes);
      place_is = edge-inner end h i n p ne f here ep ei (rw is at on.place_is);
      leaf_is = rw is at on.leaf_is ∙ sym (leaf-at h i n p ne ep);
    }

-- from the last gap below the i-th child over the i-th index to the first gap below the next child
turn-at :
    (h i : ℕ) (n : Node) (p q : List ℕ)
    → h ≢ 0
    → IsFormed h n
    → i < length (row n)
    → slice_index p h ≡ i
    → slice_index q h ≡ i + 1
    → place (h - 1) (child n i) p ≡ length (flat (h - 1) (child n i))
    → place (h - 1) (child n (i + 1)) q ≡ 0
    → IsBehind (flat h n) (place h n p) (slice_index (row n) i) × (place h n q ≡ place h n p + 1)
turn-at h i n p q ne f lt ep eq last first =
    let xs : List ℕ = row n in let ks : List (List ℕ) = lists (h - 1) (children n) in
    let one = lists-one_more h n ne f in
    let list = ap length (lists-at (h - 1) n i (child-within h n i ne f (omega arith))) in
    let at = place-at h i n p ne ep in let to = place-at h (i + 1) n q ne eq in
    let is : place h n p ≡ index_place i xs ks = omega arith in
    let next = before-next i xs ks lt one in
    let held = row-woven xs ks one in
    ((rw (is, flat-inner h n ne) (held.within i lt), rw (is, flat-inner h n ne) (sym (held.at i lt))), omega arith)

-- a step over an index of a node itself
steps-here :
    (towards : End) (h i : ℕ) (r : ℕ × ℕ) (n : Node) (p q : List ℕ)
    → h ≢ 0
    → IsFormed h n
    → AreBeside towards (length (row n)) i (Some r)
    → slice_index p h ≡ i
    → slice_index q h ≡ r.1
    → place (h - 1) (child n i) p ≡ edge_of towards (length (flat (h - 1) (child n i)))
    → place (h - 1) (child n r.1) q ≡ edge_of (opposite towards) (length (flat (h - 1) (child n r.1)))
    → Steps towards (flat h n) (place h n p) (Some (slice_index (row n) r.0)) (place h n q)
steps-here Back h i r n p q ne f b ep eq last first =
    let from = b.1 in
    let to = b.2 in
    turn-at h r.0 n p q ne f b.0 (ep ∙ from) (eq ∙ to) (rw from at last) (rw to at first)
steps-here Front h i r n p q ne f b ep eq last first =
    let from = b.1 in
    let to = b.2 in
    turn-at h r.0 n q p ne f b.0 (eq ∙ to) (ep ∙ from) (rw to at first) (rw from at last)

steps-leaf :
    (towards : End) (h i : ℕ) (r : ℕ × ℕ) (n : Node) (p q : List ℕ)
    → h ≡ 0
    → AreBeside towards (length (row n)) i (Some r)
    → slice_index p h ≡ i
    → slice_index q h ≡ r.1
    → Steps towards (flat h n) (place h n p) (Some (slice_index (row n) r.0)) (place h n q)
steps-leaf Back h i r n p q e b ep eq =
    let is : place h n p ≡ r.0 = place-leaf h n p e ∙ ap (slice_index p) (sym e) ∙ ep ∙ b.1 in
    ((rw (is, flat-leaf h n e) b.0, rw (is, flat-leaf h n e)), place-leaf h n q e ∙ ap (slice_index q) (sym e) ∙ eq ∙ b.2 ∙ ap (λ z. z + 1) (sym is))
steps-leaf Front h i r n p q e b ep eq =
    let is : place h n q ≡ r.0 = place-leaf h n q e ∙ ap (slice_index q) (sym e) ∙ eq ∙ b.2 in
    ((rw (is, flat-leaf h n e) b.0, rw (is, flat-leaf h n e)), place-leaf h n p e ∙ ap (slice_index p) (sym e) ∙ ep ∙ b.1 ∙ ap (λ z. z + 1) (sym is))

pub over-below :
    (towards : End) (h i ix : ℕ) (n k : Node) (p xs q : List ℕ)
    → h ≢ 0
    → IsFormed h n
    → Below h i n k p
    → i ≡ slice_index p h
    → slice_index q h ≡ slice_index p h
    → StepsOver towards (h - 1) k p ix xs q
    → StepsOver towards h n p ix xs q
over-below towards h i ix n k p xs q ne f b ei eq o =
    let to = eq ∙ sym ei in
    record {
      goes = goes-at h i n q ne to b.here (rw b.is at o.goes);
      steps = steps-below towards h i ix n p q ne f b.here (sym ei) to (rw b.is at o.steps);
      leaf_is = rw b.is at o.leaf_is ∙ sym (leaf-at h i n q ne to);
    }

pub over-leaf :
    (towards : End) (h i : ℕ) (r : ℕ × ℕ) (n : Node) (p xs q : List ℕ)
    → h ≡ 0
    → AreBeside towards (length (row n)) i (Some r)
    → i ≡ slice_index p h
    → slice_index q h ≡ r.1
    → xs ≡ row n
    → StepsOver towards h n p (slice_index (row n) r.0) xs q
over-leaf towards h i r n p xs q e b ei eq ex =
    let inside = beside-within towards (length (row n)) i r b in
    let here = ap (slice_index q) (sym e) ∙ eq in
    record {
      goes = rw e (reaches-here InGap 0 n q (omega arith));
      steps = steps-leaf towards h i r n p q e b (sym ei) eq;
      leaf_is = ex ∙ sym (leaf-zero h n q e);
    }

pub over-here :
    (towards : End) (h i : ℕ) (r : ℕ × ℕ) (n k j : Node) (p xs q : List ℕ)
    → h ≢ 0
    → IsFormed h n
    → Below h i n k p
    → i ≡ slice_index p h
    → AreBeside towards (length (row n)) i (Some r)
    → place (h - 1) k p ≡ edge_of towards (length (flat (h - 1) k))
    → r.1 < length (children n)
    → j ≡ child n r.1
    → slice_index q h ≡ r.1
    → AtEdge (opposite towards) (h - 1) j xs q
    → StepsOver towards h n p (slice_index (row n) r.0) xs q
over-here towards h i r n k j p xs q ne f b ei beside last here is eq first =
    record {
      goes = goes-at h r.1 n q ne eq here (rw is at first.goes);
      steps = steps-here towards h i r n p q ne f beside (sym ei) eq (rw b.is at last) (rw is at first.place_is);
      leaf_is = rw is at first.leaf_is ∙ sym (leaf-at h r.1 n q ne eq);
    }

-- there is no index towards that end
pub ended-leaf :
    (towards : End) (h i : ℕ) (n : Node) (p : List ℕ)
    → h ≡ 0
    → AreBeside towards (length (row n)) i None
    → i ≡ slice_index p h
    → place h n p ≡ edge_of towards (length (flat h n))
ended-leaf towards h i n p e b ei = edge-leaf towards h i n p e (sym ei) b

pub ended-here :
    (towards : End) (h i : ℕ) (n k : Node) (p : List ℕ)
    → h ≢ 0
    → IsFormed h n
    → Below h i n k p
    → i ≡ slice_index p h
    → AreBeside towards (length (row n)) i None
    → place (h - 1) k p ≡ edge_of towards (length (flat (h - 1) k))
    → place h n p ≡ edge_of towards (length (flat h n))
ended-here towards h i n k p ne f b ei beside last =
    edge-inner towards h i n p ne f b.here (sym ei) beside (rw b.is at last)

-- another gap of the same leaf
pub record Moved (h : ℕ) (n : Node) (p q : List ℕ) : Type 0 where
  pub goes : ReachesGap h n q
  pub same_leaf : leaf h n q ≡ leaf h n p
  pub place_is : place h n q + slice_index p 0 ≡ place h n p + slice_index q 0

pub moved :
    (h : ℕ) (n : Node) (p q : List ℕ)
    → ReachesGap h n p
    → slice_index q 0 ≤ length (leaf h n p)
    → ((m : ℕ) → 0 < m → slice_index q m ≡ slice_index p m)
    → Moved h n p q
moved zero n p q g le same =
    let from = place-leaf 0 n p refl in let to = place-leaf 0 n q refl in
    record {
      goes = reaches-here InGap 0 n q (rw (leaf-zero 0 n p refl) at le);
      same_leaf = leaf-zero 0 n q refl ∙ sym (leaf-zero 0 n p refl);
      place_is = omega arith;
    }
moved (suc h) n p q g le same =
    let ne : suc h ≢ 0 = λ e. absurd (omega arith) in
    let i : ℕ = slice_index p (suc h) in
    let e : slice_index q (suc h) ≡ i = same (suc h) (omega arith) in
    let at = goes-inner (suc h) n p ne g in
    let is : leaf (suc h) n p ≡ leaf h (child n i) p = rw sub-one at (leaf-at (suc h) i n p ne refl) in
    let m = moved h (child n i) p q (rw sub-one at at.on) (rw is at le) same in
    let from : place (suc h) n p ≡ length (before i (row n) (lists h (children n))) + place h (child n i) p =
    rw sub-one at (place-at (suc h) i n p ne refl) in
    let to : place (suc h) n q ≡ length (before i (row n) (lists h (children n))) + place h (child n i) q =
    rw sub-one at (place-at (suc h) i n q ne e) in
    let moved = m.place_is in
    record {
      goes = goes-at (suc h) i n q ne e at.here (rw sub-one m.goes);
      same_leaf = (rw sub-one at (leaf-at (suc h) i n q ne e)) ∙ m.same_leaf ∙ sym is;
      place_is = omega arith;
    }

-- a leaf has at most eleven indexes, and stands as a part in the whole list
pub leaf-few : (h : ℕ) (n : Node) (p : List ℕ) → IsFormed h n → ReachesGap h n p → length (leaf h n p) ≤ most_in_row
leaf-few zero n p f g = rw (leaf-zero 0 n p refl) (formed-within 0 n f)
leaf-few (suc h) n p f g =
    let at = goes-inner (suc h) n p (λ e. absurd (omega arith)) g in
    let below = child-formed (suc h) n (slice_index p (suc h)) (λ e. absurd (omega arith)) f at.here in
    rw (leaf-at (suc h) _ n p (λ e. absurd (omega arith)) refl, sub-one)
    (leaf-few h _ p (rw sub-one at below) (rw sub-one at at.on))

pub goes-within : (h : ℕ) (n : Node) (p : List ℕ) → ReachesGap h n p → slice_index p 0 ≤ length (leaf h n p)
goes-within zero n p g = rw (leaf-zero 0 n p refl) (goes-leaf 0 n p refl g)
goes-within (suc h) n p g =
    let at = goes-inner (suc h) n p (λ e. absurd (omega arith)) g in
    rw (leaf-at (suc h) _ n p (λ e. absurd (omega arith)) refl, sub-one) (goes-within h _ p (rw sub-one at at.on))

pub leaf-read :
    (h : ℕ) (n : Node) (p : List ℕ)
    → IsFormed h n
    → ReachesGap h n p
    → slice_index p 0 < length (leaf h n p)
    → IsBehind (flat h n) (place h n p) (slice_index (leaf h n p) (slice_index p 0))
leaf-read zero n p f g lt =
    rw (leaf-zero 0 n p refl, flat-leaf 0 n refl, place-leaf 0 n p refl) (rw (leaf-zero 0 n p refl) at lt, refl)
leaf-read (suc h) n p f g lt =
    let ne : suc h ≢ 0 = λ e. absurd (omega arith) in
    let i : ℕ = slice_index p (suc h) in
    let at = goes-inner (suc h) n p ne g in
    let is : leaf (suc h) n p ≡ leaf h (child n i) p = rw sub-one at (leaf-at (suc h) i n p ne refl) in
    let below =
    leaf-read h (child n i) p (rw sub-one at (child-formed (suc h) n i ne f at.here)) (rw sub-one at at.on)
    (rw is at lt) in
    rw (place-at (suc h) i n p ne refl, is) (behind-below (suc h) i _ _ n ne f at.here (rw sub-one below))

-- the same for a tree that may be empty
pub IsAt-whole :
    (t : Option Node) (h : ℕ) (n : Node) (p row : List ℕ) (at : ℕ)
    → t ≡ Some n
    → length p ≡ most_levels
    → ReachesGap h n p
    → row ≡ leaf h n p
    → at ≡ slice_index p 0
    → (to_gap p at ≡ p) × IsAt t h p row at
IsAt-whole t h n p row at e whole g is ea =
    let same : to_gap p at ≡ p = rw ea (set-get_or p 0 0) in (
      same,
      record {
        gap = record { whole = whole; goes = rw (same, e) g };
        leaf = rw (same, e) is;
        within = rw (ea, is) (goes-within h n p g);
      },
    )

-- another place of the leaf
pub IsAt-moved :
    (t : Option Node) (h i : ℕ) (p row : List ℕ) (at : ℕ)
    → IsTree t h
    → IsAt t h p row at
    → i ≤ length row
    → IsAt t h p row i × (place_in t h (to_gap p i) + at ≡ place_in t h (to_gap p at) + i)
IsAt-moved None h i p row at t a le = (record { gap = record { whole = a.gap.whole; goes = omega arith }; leaf = a.leaf; within = le }, (let none = ap length a.leaf in let within = a.within in omega arith))
IsAt-moved (Some n) h i p row at t a le =
    let whole = a.gap.whole in
    let here : slice_index (to_gap p i) 0 ≡ i = path-here p (to_gap p i) 0 i whole (omega arith) refl in
    let was : slice_index (to_gap p at) 0 ≡ at = path-here p (to_gap p at) 0 at whole (omega arith) refl in
    let m =
    moved h n (to_gap p at) (to_gap p i) a.gap.goes (rw (here, ← a.leaf) le)
    (λ m lt. path-above p (to_gap p i) 0 i m refl lt ∙ sym (path-above p (to_gap p at) 0 at m refl lt)) in
    let is = m.place_is in
    (record { gap = record { whole = whole; goes = m.goes }; leaf = a.leaf ∙ sym m.same_leaf; within = le }, omega arith)

pub IsAt-read :
    (t : Option Node) (h : ℕ) (p row : List ℕ) (at : ℕ)
    → IsTree t h
    → IsAt t h p row at
    → at < length row
    → IsBehind (in_order t h) (place_in t h (to_gap p at)) (slice_index row at)
IsAt-read None h p row at t a lt = absurd (let none = ap length a.leaf in omega arith)
IsAt-read (Some n) h p row at t a lt =
    let here : slice_index (to_gap p at) 0 ≡ at = path-here p (to_gap p at) 0 at a.gap.whole (omega arith) refl in
    let b = leaf-read h n (to_gap p at) t.0 a.gap.goes (rw (here, ← a.leaf) lt) in
    (b.0, rw (here, ← a.leaf) at b.1)

-- a step in the leaf
pub steps-ahead :
    (t : Option Node) (h ix : ℕ) (p row : List ℕ) (at : ℕ)
    → IsTree t h
    → IsAt t h p row at
    → at < length row
    → ix ≡ slice_index row at
    → IsAt t h p row (at + 1) × Steps Back (in_order t h) (place_in t h (to_gap p at)) (Some ix)
    (place_in t h (to_gap p (at + 1)))
steps-ahead t h ix p row at tree a lt e =
    let m = IsAt-moved t h (at + 1) p row at tree a (omega arith) in
    let b = IsAt-read t h p row at tree a lt in let is = m.1 in
    (m.0, ((b.0, e ∙ b.1), omega arith))

pub steps-back :
    (t : Option Node) (h ix : ℕ) (p row : List ℕ) (at : ℕ)
    → IsTree t h
    → IsAt t h p row at
    → 0 < at
    → ix ≡ slice_index row (at - 1)
    → IsAt t h p row (at - 1) × Steps Front (in_order t h) (place_in t h (to_gap p at)) (Some ix)
    (place_in t h (to_gap p (at - 1)))
steps-back t h ix p row at tree a some e =
    let within = a.within in
    let m = IsAt-moved t h (at - 1) p row at tree a (omega arith) in
    let b = IsAt-read t h p row (at - 1) tree m.0 (omega arith) in let is = m.1 in
    (m.0, ((b.0, e ∙ b.1), omega arith))

pub IsGap-few :
    (t : Option Node) (h : ℕ) (n : Node) (p : List ℕ) (at : ℕ)
    → t ≡ Some n
    → IsTree t h
    → IsGap t h p at
    → at ≤ most_in_row
IsGap-few t h n p at e tree g =
    let goes : ReachesGap h n (to_gap p at) = rw e at g.goes in
    let formed : IsTree (Some n) h = subst (λ t. IsTree t h) e tree in
    let here : slice_index (to_gap p at) 0 ≡ at = path-here p (to_gap p at) 0 at g.whole (omega arith) refl in
    let within = goes-within h n (to_gap p at) goes in let few = leaf-few h n (to_gap p at) formed.0 goes in
    omega arith

pub IsAt-few :
    (t : Option Node) (h : ℕ) (p row : List ℕ) (at : ℕ)
    → IsTree t h
    → IsAt t h p row at
    → length row ≤ most_in_row
IsAt-few None h p row at t a = let none = ap length a.leaf in omega arith
IsAt-few (Some n) h p row at t a =
    let few = leaf-few h n (to_gap p at) t.0 a.gap.goes in let len = ap length a.leaf in omega arith

pub IsLeafParent-from :
    (t : Option Node) (h : ℕ) (n : Node) (p : List ℕ) (k : Option (Bor Node))
    → t ≡ Some n
    → IfSome k (λ k. (0 < h) × (k.now ≡ leaf_parent h n p))
    → IsLeafParent t h p k
IsLeafParent-from t h n p None e l = tt
IsLeafParent-from None h n p (Some k) e l = absurd (cc)
IsLeafParent-from (Some m) h n p (Some k) e l = (l.0, l.1 ∙ (let same : n ≡ m = cc in ap (λ n. leaf_parent h n p) same))

-- from the end of a leaf over the next index of the node above it
leaf_parent-same :
    (h : ℕ) (n : Node) (p q : List ℕ)
    → ((m : ℕ) → 1 < m → slice_index q m ≡ slice_index p m)
    → leaf_parent h n q ≡ leaf_parent h n p
unfolding leaf_parent
leaf_parent-same zero n p q same = refl
leaf_parent-same (suc zero) n p q same = refl
leaf_parent-same (suc (suc h)) n p q same = rw (same (suc (suc h)) (omega arith)) (leaf_parent-same (suc h) _ p q same)

record LeafParentStep (h : ℕ) (n k : Node) (p q : List ℕ) : Type 0 where
  inside : slice_index p 1 + 1 < length (children k)
  over : StepsOver Back h n p (slice_index (row k) (slice_index p 1)) (row (child k (slice_index p 1 + 1))) q

leaf_parent-step :
    (h : ℕ) (n : Node) (p q : List ℕ)
    → 0 < h
    → IsFormed h n
    → ReachesGap h n p
    → length (leaf h n p) ≤ slice_index p 0
    → slice_index q 0 ≡ 0
    → slice_index q 1 ≡ slice_index p 1 + 1
    → ((m : ℕ) → 1 < m → slice_index q m ≡ slice_index p m)
    → slice_index p 1 < length (row (leaf_parent h n p))
    → LeafParentStep h n (leaf_parent h n p) p q
unfolding leaf_parent
leaf_parent-step zero n p q some f g end first next same lt = absurd (omega arith)
leaf_parent-step (suc zero) n p q some f g end first next same lt =
    let ne : suc zero ≢ 0 = λ e. cc in
    let i : ℕ = slice_index p 1 in
    let at = goes-inner 1 n p ne g in
    let inside = child-within 1 n (i + 1) ne f (omega arith) in
    let k : Node = child n i in
    let whole : slice_index p 0 ≡ length (row k) = (let le = goes-leaf 0 k p refl at.on in let is = ap length (leaf-at 1 i n p ne refl ∙ leaf-zero 0 k p refl) in omega arith) in
    record {
      inside = inside;
      over = over-here Back 1 i (i, i + 1) n k (child n (i + 1)) p (row (child n (i + 1))) q ne f
          (record { here = at.here; is = refl; formed = child-formed 1 n i ne f at.here; goes = at.on }) refl
          (lt, refl, refl)
          (place-leaf 0 k p refl ∙ whole ∙ ap length (sym (flat-leaf 0 k refl))) inside refl next
          (at_edge-leaf Front 0 0 (child n (i + 1)) _ q refl first refl refl);
    }
leaf_parent-step (suc (suc h)) n p q some f g end first next same lt =
    let ne : suc (suc h) ≢ 0 = λ e. cc in
    let i : ℕ = slice_index p (suc (suc h)) in
    let k : Node = child n i in
    let at = goes-inner (suc (suc h)) n p ne g in
    let b : Below (suc (suc h)) i n k p =
    record { here = at.here; is = refl; formed = child-formed (suc (suc h)) n i ne f at.here; goes = at.on } in
    let is : leaf (suc (suc h)) n p ≡ leaf (suc h) k p = rw sub-one at (leaf-at (suc (suc h)) i n p ne refl) in
    let ih =
    leaf_parent-step (suc h) k p q (omega arith) (rw sub-one at b.formed) (rw sub-one at b.goes)
    (rw is at end) first next same lt in
    record {
      inside = ih.inside;
      over =
          over-below Back (suc (suc h)) i _ n k p _ q ne f b refl (same (suc (suc h)) (omega arith))
          (rw sub-one ih.over);
    }

pub record NextLeafParent (t : Option Node) (h : ℕ) (k : Node) (p : List ℕ) (at : ℕ) (q : List ℕ) : Type 0 where
  pub inside : slice_index p 1 + 1 < length (children k)
  pub at_is : IsAt t h q (row (child k (slice_index p 1 + 1))) 0
  pub leaf_parent_is : (b : Bor Node) → b.now ≡ k → IsLeafParent t h q (Some b)
  pub steps :
      Steps Back (in_order t h) (place_in t h (to_gap p at)) (Some (slice_index (row k) (slice_index p 1)))
      (place_in t h (to_gap q 0))

pub next-leaf_parent :
    (t : Option Node) (h : ℕ) (b : Bor Node) (p row_is : List ℕ) (at : ℕ) (q : List ℕ)
    → IsTree t h
    → IsAt t h p row_is at
    → length row_is ≤ at
    → IsLeafParent t h p (Some b)
    → slice_index p 1 < length (row b.now)
    → q ≡ slice_set p 1 (slice_index p 1 + 1)
    → NextLeafParent t h b.now p at q
next-leaf_parent None h b p row_is at q tree a end l lt eq = absurd l
next-leaf_parent (Some n) h b p row_is at q tree a end l lt eq =
    let whole = a.gap.whole in
    let len : length q ≡ most_levels = ap length eq ∙ length-set p 1 _ ∙ whole in
    let r : List ℕ = to_gap p at in
    let s : List ℕ = to_gap q 0 in
    let was : slice_index r 0 ≡ at = path-here p r 0 at whole (omega arith) refl in
    let same : (m : ℕ) → 0 < m → slice_index r m ≡ slice_index p m = λ m lt. path-above p r 0 at m refl lt in
    let kept : (m : ℕ) → 0 < m → slice_index s m ≡ slice_index q m = λ m lt. path-above q s 0 0 m refl lt in
    let over : (m : ℕ) → 1 < m → slice_index q m ≡ slice_index p m = λ m lt. path-above p q 1 _ m eq lt in
    let next : slice_index s 1 ≡ slice_index r 1 + 1 =
    kept 1 (omega arith) ∙ path-here p q 1 _ whole (omega arith) eq
    ∙ ap (λ z. z + 1) (sym (same 1 (omega arith))) in
    let is : b.now ≡ leaf_parent h n r = l.1 ∙ sym (leaf_parent-same h n p r (λ m lt. same m (omega arith))) in
    let end_is : length (leaf h n r) ≤ slice_index r 0 = rw (was, ← a.leaf) end in
    let step : LeafParentStep h n b.now r s =
    rw is (leaf_parent-step h n r s l.0 tree.0 a.gap.goes end_is (path-here q s 0 0 len (omega arith) refl) next
    (λ m lt. kept m (omega arith) ∙ over m lt ∙ sym (same m (omega arith))) (rw (← is, same 1 (omega arith)) lt)) in
    let there : slice_index r 1 ≡ slice_index p 1 = same 1 (omega arith) in
    record {
      inside = rw there at step.inside;
      at_is =
          record {
            gap = record { whole = len; goes = step.over.goes };
            leaf = rw there at step.over.leaf_is;
            within = omega arith;
          };
      leaf_parent_is = λ c e. (l.0, e ∙ l.1 ∙ sym (leaf_parent-same h n p q over));
      steps = rw there at step.over.steps;
    }

-- what is left of a list between two gaps, after a step from the one or the other
pub left-ahead :
    (count i j k : ℕ) (xs : List ℕ) (r : Option ℕ)
    → count ≢ 0
    → i + count ≡ k
    → k ≤ length xs
    → Steps Back xs i r j
    → (j + (count - 1) ≡ k)
    × YieldsFirst (λ (ys : List ℕ). ys) (next_behind count i xs) r (next_behind (count - 1) j xs)
left-ahead count i j k xs None some e le s = let end = s.0 in absurd (omega arith)
left-ahead count i j k xs (Some ix) some e le s =
    let next : count ≡ suc (count - 1) = omega arith in
    let up : j ≡ suc i = (let e = s.1 in omega arith) in (
      omega arith,
      ap (take count) (drop-cons xs i 0 s.0.0) ∙ ap (λ n. take n (get_or xs i 0 ∷ drop (suc i) xs)) next
          ∙ ap (λ z. z ∷ take (count - 1) (drop (suc i) xs)) (sym s.0.1)
          ∙ ap (λ n. ix ∷ next_behind (count - 1) n xs) (sym up),
    )

pub left-back :
    (count i j k : ℕ) (xs : List ℕ) (r : Option ℕ)
    → count ≢ 0
    → i + count ≡ k
    → k ≤ length xs
    → Steps Front xs k r j
    → (i + (count - 1) ≡ j) × YieldsLast (λ (ys : List ℕ). ys) (next_behind count i xs) r (next_behind (count - 1) i xs)
left-back count i j k xs None some e le s = let end = s.0 in absurd (omega arith)
left-back count i j k xs (Some ix) some e le s =
    let next : count ≡ suc (count - 1) = omega arith in
    let at : i + (count - 1) ≡ j = (let down = s.1 in omega arith) in
    let inside : count - 1 < length (drop i xs) = omega (arith, length-drop i xs) in (
      at,
      ap (λ n. next_behind n i xs) next ∙ take-suc (drop i xs) (count - 1) 0 inside
          ∙ ap (λ z. next_behind (count - 1) i xs ++ z ∷ []) (get_or-drop i xs (count - 1) 0 ∙ ap (λ n. get_or xs n 0) at ∙ sym s.0.1),
    )

-- and what is left behind a gap, after a step towards the back
pub rest-ahead :
    (i j : ℕ) (xs : List ℕ) (r : Option ℕ)
    → Steps Back xs i r j
    → YieldsFirst (λ (ys : List ℕ). ys) (drop i xs) r (drop j xs)
rest-ahead i j xs None s = let none = drop_all i xs (omega arith) in (none, ap (λ n. drop n xs) s.1 ∙ none)
rest-ahead i j xs (Some ix) s =
    let up : j ≡ suc i = (let e = s.1 in omega arith) in
    drop-cons xs i 0 s.0.0 ∙ ap (λ z. z ∷ drop (suc i) xs) (sym s.0.1) ∙ ap (λ n. ix ∷ drop n xs) (sym up)

-- the first index, and the last
pub first-is : (i j : ℕ) (xs : List ℕ) (r : Option ℕ) → i ≡ 0 → Steps Back xs i r j → r ≡ slice_get xs 0
first-is i j xs None e s = sym (slice_get_past xs 0 (omega arith))
first-is i j xs (Some ix) e s = ap Some s.0.1 ∙ sym (slice_get-get_or xs i 0 s.0.0) ∙ ap (slice_get xs) e

pub last-is :
    (i j : ℕ) (xs : List ℕ) (r : Option ℕ)
    → i ≡ length xs
    → Steps Front xs i r j
    → r ≡ slice_get xs (length xs - 1)
last-is i j xs None e s = sym (slice_get_past xs (length xs - 1) (omega arith))
last-is i j xs (Some ix) e s =
    let last : j ≡ length xs - 1 = (let down = s.1 in omega arith) in
    ap Some s.0.1 ∙ sym (slice_get-get_or xs j 0 s.0.0) ∙ ap (slice_get xs) last

pub left-length :
    (count i j : ℕ) (xs : List ℕ)
    → i + count ≡ j
    → j ≤ length xs
    → length (next_behind count i xs) ≡ count
left-length count i j xs e le = length-take-le count (drop i xs) (omega (arith, length-drop i xs))

-- the highest level at which two paths differ decides which of their gaps comes first
pub gaps-less :
    (h : ℕ) (n : Node) (p q : List ℕ)
    → IsFormed h n
    → ReachesGap h n p
    → ReachesGap h n q
    → slice_index p h < slice_index q h
    → place h n p < place h n q
gaps-less zero n p q f gp gq lt = rw (place-leaf 0 n p refl, place-leaf 0 n q refl) lt
gaps-less (suc h) n p q f gp gq lt =
    let ne : suc h ≢ 0 = λ e. absurd (omega arith) in
    let i : ℕ = slice_index p (suc h) in let j : ℕ = slice_index q (suc h) in
    let xs : List ℕ = row n in let ks : List (List ℕ) = lists (suc h - 1) (children n) in
    let one = lists-one_more (suc h) n ne f in
    let from = goes-inner (suc h) n p ne gp in let to = goes-inner (suc h) n q ne gq in
    let count = length-map (children n) (λ k. flat (suc h - 1) k) in
    let here = to.here in
    let inside = place-within (suc h - 1) (child n i) p (child-formed (suc h) n i ne f from.here) from.on in
    let list = ap length (lists-at (suc h - 1) n i from.here) in
    let up : index_place i xs ks ≤ index_place (j - 1) xs ks =
    elim (cases_lt i (j - 1)) [
      | inl less ↦ (let rises = (row-woven xs ks one).rises i (j - 1) less (omega arith) in omega arith)
      | inr le ↦ (let same : j - 1 ≡ i = omega arith in rw same (omega arith))
    ] in
    let last : j - 1 + 1 ≡ j = omega arith in
    let next : length (before j xs ks) ≡ index_place (j - 1) xs ks + 1 =
    rw last at (before-next (j - 1) xs ks (omega arith) one) in
    omega (arith, place-inner (suc h) n p ne, place-inner (suc h) n q ne)

pub gaps-part :
    (r : Ordering) (h : ℕ) (n : Node) (p q : List ℕ)
    → IsFormed h n
    → ReachesGap h n p
    → ReachesGap h n q
    → Compares r (slice_index p h) (slice_index q h)
    → (r ≡ Equal → h ≡ 0)
    → Compares r (place h n p) (place h n q)
gaps-part Less h n p q f gp gq told leaf = gaps-less h n p q f gp gq told
gaps-part Equal h n p q f gp gq told leaf =
    let e = leaf refl in
    place-leaf h n p e ∙ ap (slice_index p) (sym e) ∙ told ∙ ap (slice_index q) e ∙ sym (place-leaf h n q e)
gaps-part Greater h n p q f gp gq told leaf = gaps-less h n q p f gq gp told

pub gaps-below :
    (r : Ordering) (h i : ℕ) (n : Node) (p q : List ℕ)
    → h ≢ 0
    → slice_index p h ≡ i
    → slice_index q h ≡ i
    → Compares r (place (h - 1) (child n i) p) (place (h - 1) (child n i) q)
    → Compares r (place h n p) (place h n q)
gaps-below Less h i n p q ne ep eq told = omega (arith, place-at h i n p ne ep, place-at h i n q ne eq)
gaps-below Equal h i n p q ne ep eq told = omega (arith, place-at h i n p ne ep, place-at h i n q ne eq)
gaps-below Greater h i n p q ne ep eq told = omega (arith, place-at h i n p ne ep, place-at h i n q ne eq)

-- paths that agree, one level at a time
pub agree-none : (h : ℕ) (p q : List ℕ) → h ≡ 0 → Agree h p q
agree-none h p q e k low high = absurd (omega arith)

pub agree-below : (h l : ℕ) (p q : List ℕ) → h ≡ l + 1 → Agree h p q → Agree l p q
agree-below h l p q e agree k low high = agree k low (omega arith)

pub agree-above : (h l : ℕ) (p q : List ℕ) → h ≡ l + 1 → slice_index p h ≡ slice_index q h → Agree l p q → Agree h p q
agree-above h l p q e here agree k low high =
    elim (cases_lt k h) [
      | inl lt ↦ agree k low (omega arith)
      | inr ge ↦ (let same : k ≡ h = omega arith in rw same here)
    ]

-- paths that agree, with the same place in the leaf, go to the same gap
pub agree-same :
    (h : ℕ) (n : Node) (p q : List ℕ)
    → slice_index p 0 ≡ slice_index q 0
    → Agree h p q
    → place h n p ≡ place h n q
agree-same zero n p q e agree = place-leaf 0 n p refl ∙ e ∙ sym (place-leaf 0 n q refl)
agree-same (suc h) n p q e agree =
    let ne : suc h ≢ 0 = λ z. absurd (omega arith) in
    let i : ℕ = slice_index p (suc h) in
    let there : slice_index q (suc h) ≡ i = sym (agree (suc h) (omega arith) (omega arith)) in
    let below = agree-same h (child n i) p q e (agree-below (suc h) h p q (omega arith) agree) in
    let a = rw sub-one at (place-at (suc h) i n p ne refl) in
    let b = rw sub-one at (place-at (suc h) i n q ne there) in
    omega arith

-- paths to the same gap have the same place in the leaf, and agree
pub gaps-same :
    (h : ℕ) (n : Node) (p q : List ℕ)
    → IsFormed h n
    → ReachesGap h n p
    → ReachesGap h n q
    → place h n p ≡ place h n q
    → (slice_index p 0 ≡ slice_index q 0) × Agree h p q
gaps-same zero n p q f gp gq same =
    (sym (place-leaf 0 n p refl) ∙ same ∙ place-leaf 0 n q refl, agree-none 0 p q refl)
gaps-same (suc h) n p q f gp gq same =
    let ne : suc h ≢ 0 = λ e. absurd (omega arith) in
    let e : slice_index p (suc h) ≡ slice_index q (suc h) =
    elim (cases_lt (slice_index p (suc h)) (slice_index q (suc h))) [
      | inl lt ↦ (let less = gaps-less (suc h) n p q f gp gq lt in absurd (omega arith))
      | inr le ↦ elim (cases_lt (slice_index q (suc h)) (slice_index p (suc h))) [
        | inl lt ↦ (let less = gaps-less (suc h) n q p f gq gp lt in absurd (omega arith))
        | inr ge ↦ omega arith
      ]
    ] in
    let from = goes-inner (suc h) n p ne gp in let to = goes-inner (suc h) n q ne gq in
    let i : ℕ = slice_index p (suc h) in
    let a = rw sub-one at (place-at (suc h) i n p ne refl) in
    let b = rw sub-one at (place-at (suc h) i n q ne (sym e)) in
    let below = gaps-same h (child n i) p q (rw sub-one at (child-formed (suc h) n i ne f from.here))
    (rw sub-one at from.on) (rw (sub-one, ← e) at to.on) (omega arith) in
    (below.0, agree-above (suc h) h p q (omega arith) e below.1)

pub at-same :
    (t : Option Node) (h : ℕ) (p row : List ℕ) (i : ℕ) (q other : List ℕ) (j : ℕ)
    → IsTree t h
    → IsAt t h p row i
    → IsAt t h q other j
    → place_in t h (to_gap p i) ≡ place_in t h (to_gap q j)
    → i ≡ j
at-same None h p row i q other j t a b same =
    let none = ap length a.leaf in
    let within = a.within in
    let empty = ap length b.leaf in
    let inside = b.within in
    omega arith
at-same (Some n) h p row i q other j t a b same =
    sym (path-here p (to_gap p i) 0 i a.gap.whole (omega arith) refl)
    ∙ (gaps-same h n (to_gap p i) (to_gap q j) t.0 a.gap.goes b.gap.goes same).0
    ∙ path-here q (to_gap q j) 0 j b.gap.whole (omega arith) refl

-- gaps with the same place in their leaves are the same if their paths agree
pub at-agree :
    (t : Option Node) (h : ℕ) (p row : List ℕ) (i : ℕ) (q other : List ℕ) (j : ℕ)
    → IsTree t h
    → IsAt t h p row i
    → IsAt t h q other j
    → i ≡ j
    → Agree h p q ↔ (place_in t h (to_gap p i) ≡ place_in t h (to_gap q j))
at-agree None h p row i q other j t a b e = (λ agree. refl, λ same. agree-none h p q t)
at-agree (Some n) h p row i q other j t a b e =
    let r : List ℕ = to_gap p i in
    let s : List ℕ = to_gap q j in
    let here : slice_index r 0 ≡ i = path-here p r 0 i a.gap.whole (omega arith) refl in
    let there : slice_index s 0 ≡ j = path-here q s 0 j b.gap.whole (omega arith) refl in
    let from : (k : ℕ) → 0 < k → slice_index r k ≡ slice_index p k = λ k lt. path-above p r 0 i k refl lt in
    let to : (k : ℕ) → 0 < k → slice_index s k ≡ slice_index q k = λ k lt. path-above q s 0 j k refl lt in (
      λ agree. agree-same h n r s (here ∙ e ∙ sym there) (λ k low high. from k low ∙ agree k low high ∙ sym (to k low)),
      λ same k low high. sym (from k low)
          ∙ (gaps-same h n r s t.0 a.gap.goes b.gap.goes same).1 k low high
          ∙ to k low,
    )

-- a place of a leaf
pub IsAt-low : (t : Option Node) (h : ℕ) (p row : List ℕ) (at : ℕ) → IsTree t h → IsAt t h p row at → at ≤ most_in_row
IsAt-low t h p row at tree a = let few = IsAt-few t h p row at tree a in let within = a.within in omega arith
