-- What an insert leaves of a node.
use Rattle.iddqd_order.proofs.Names.{IsChild, IsPut, ◌≡◌, ◌≢◌, ℕ, zero, suc, ◌+◌, ◌-◌, ◌<◌, ◌≤◌, List, [], ◌∷◌, ◌++◌, length, set, get_or, slice_index, refl, ap, sym, ◌∙◌, arith, inl, inr, All, cases_lt, insert, length-append, length-set, length-map, length-insert, get_or_default, map-set, map-append, All-set, Node, row, children, child, child_room, weave, before, flat, IsInner, IsFormed, ReachesGap, place, IsFullBelow, IsSplit, most_in_row, least_in_row, most_children, InGap}
use Rattle.std.proofs.lemmas.List.Sums.{sum_by-set, sum_by-insert, sum_by-append}
use Rattle.iddqd_order.specs.Node.{inners}
use Rattle.iddqd_order.specs.Removal.{inners_of}
use Rattle.iddqd_order.proofs.RecountLemmas.{inners-leaf, inners-inner}
use Rattle.iddqd_order.proofs.WeaveLemmas.{All-front, All-back, edited, widened, weave-append}
use Rattle.iddqd_order.proofs.NodeLemmas.{AreChildren, GoesDown, goes-below, lists, lists-at, lists-one_more, formed-leaf, leaf-formed, flat-leaf, goes-leaf, place-leaf, formed-within, formed-inner, inner-formed, flat-inner, full-on, full-here, map-insert, All-insert}

-- g is the i-th child, which the path takes
pub record IsTaken (h : ℕ) (old : Node) (p : List ℕ) (i : ℕ) (g : Node) : Type 0 where
  pub inner : h ≢ 0
  pub formed : IsFormed h old
  pub goes : ReachesGap h old p
  pub at : i ≡ slice_index p h
  pub is : g ≡ get_or (children old) i g

pub is_taken :
    (h : ℕ) (old : Node) (p : List ℕ) (i : ℕ) (g : Node)
    → h ≢ 0
    → IsFormed h old
    → ReachesGap h old p
    → i ≡ slice_index p h
    → g ≡ get_or (children old) i g
    → IsTaken h old p i g
is_taken h old p i g ne f goes at is = record { inner = ne; formed = f; goes = goes; at = at; is = is }

-- what is known of it
pub record Taken (h : ℕ) (old : Node) (p : List ℕ) (i : ℕ) (g : Node) : Type 0 where
  pub same : g ≡ child old i
  pub here : i < length (children old)
  pub node : IsInner old
  pub below : AreChildren (h - 1) (children old)
  pub least : least_in_row ≤ length (row g)
  pub formed : IsFormed (h - 1) g
  pub goes : ReachesGap (h - 1) g p
  pub list : get_or (lists (h - 1) (children old)) i [] ≡ flat (h - 1) g
  pub within : place (h - 1) g p ≤ length (get_or (lists (h - 1) (children old)) i [])
  pub place_is : place h old p ≡ length (before i (row old) (lists (h - 1) (children old))) + place (h - 1) g p

pub taken : (h : ℕ) (old : Node) (p : List ℕ) (i : ℕ) (g : Node) → IsTaken h old p i g → Taken h old p i g
taken h old p i g t =
    let fs = formed-inner h old t.inner t.formed in
    let ne = t.inner in
    let b : GoesDown InGap h 0 i old p = goes-below h 0 i old p (omega arith) t.at t.formed t.goes in
    let same : g ≡ child old i = t.is ∙ get_or_default (children old) i g old b.here in
    let list = lists-at (h - 1) old i b.here in
    rw same (record {
      same = refl;
      here = b.here;
      node = fs.inner;
      below = fs.below;
      least = b.five;
      formed = b.formed;
      goes = b.holds;
      list = list;
      within = rw list b.within;
      place_is = b.place;
    })

-- an index was put in, and the node is split about the index m
pub record Split (h : ℕ) (old new : Node) (m : ℕ) (up : Node) (p : List ℕ) (x : ℕ) : Type 0 where
  pub items : flat h new ++ m ∷ flat h up ≡ insert (flat h old) (place h old p) x
  pub low : (least_in_row ≤ length (row new)) × IsFormed h new
  pub high : (least_in_row ≤ length (row up)) × IsFormed h up
  pub inner : inners h new + inners h up ≡ inners h old + h

-- the inner nodes below, where k stands in the place of the child that the path takes
inners_set :
    (h : ℕ) (old : Node) (p : List ℕ) (i : ℕ) (g k : Node)
    → IsTaken h old p i g
    → inners_of (h - 1) (set (children old) i k) + inners (h - 1) g ≡ inners_of (h - 1)
    (children old) + inners (h - 1) k
inners_set h old p i g k t =
    let b = taken h old p i g t in
    omega (arith, sum_by-set (λ k. inners (h - 1) k) (children old) i k g b.here, ap (inners (h - 1)) t.is)

-- the child that the path takes got the index: k stands in its place
pub put_below :
    {more : ℕ} (h : ℕ) (old new : Node) (p : List ℕ) (x : ℕ) (i : ℕ) (g k : Node)
    → IsTaken h old p i g
    → IsPut (h - 1) g k p x more
    → row new ≡ row old
    → children new ≡ set (children old) i k
    → most_children ≤ child_room new
    → IsPut h old new p x more
put_below h old new p x i g k t d er ek rm =
    let b = taken h old p i g t in
    let f : Node → List ℕ = λ k. flat (h - 1) k in
    let ls : List (List ℕ) = lists (h - 1) (children old) in
    let one = b.node.one_more in
    let few = b.node.within in
    let counted = lists-one_more h old t.inner t.formed in
    let here = b.here in
    let k_least : least_in_row ≤ length (row k) = let a = b.least in let l = d.longer in omega arith in
    let e1 : lists (h - 1) (children new) ≡ set ls i (f k) =
    ap (λ z. lists (h - 1) z) ek ∙ map-set f (children old) i k in
    let e2 =
    edited i (row old) ls [] (f k) (place (h - 1) g p) x (omega arith) counted b.within
    (d.items ∙ ap (λ z. insert z (place (h - 1) g p) x) (sym b.list)) in
    let ln : length (children new) ≡ length (children old) = ap length ek ∙ length-set (children old) i k in
    record {
      items = rw (flat-inner h new t.inner, er, e1, flat-inner h old t.inner, b.place_is) e2;
      formed =
          inner-formed h new t.inner (record { within = rw er few; one_more = rw er (omega arith); has_room = rm })
          (rw ek (All-set (IsChild (h - 1)) (children old) i k (k_least, d.formed) b.below));
      longer = rw er (omega arith);
      inner = let e = d.inner in omega (arith, inners-inner h new t.inner, inners-inner h old t.inner, ap (inners_of (h - 1)) ek, inners_set h old p i g k t);
    }

-- the child was split, and the node had room for the upper part
pub put_here :
    (h : ℕ) (old new : Node) (p : List ℕ) (x : ℕ) (i : ℕ) (g k : Node) (m : ℕ) (u : Node)
    → IsTaken h old p i g
    → Split (h - 1) g k m u p x
    → length (row old) < most_in_row
    → row new ≡ insert (row old) i m
    → children new ≡ insert (set (children old) i k) (i + 1) u
    → most_children ≤ child_room new
    → IsPut h old new p x (h - 1)
put_here h old new p x i g k m u t d lt er ek rm =
    let b = taken h old p i g t in
    let f : Node → List ℕ = λ k. flat (h - 1) k in
    let ls : List (List ℕ) = lists (h - 1) (children old) in
    let one = b.node.one_more in
    let counted = lists-one_more h old t.inner t.formed in
    let here = b.here in
    let e1 : lists (h - 1) (children new) ≡ insert (set ls i (f k)) (i + 1) (f u) =
    ap (λ z. lists (h - 1) z) ek ∙ map-insert f (set (children old) i k) (i + 1) u
    ∙ ap (λ z. insert z (i + 1) (f u)) (map-set f (children old) i k) in
    let e2 =
    widened i (row old) ls [] (f k) (f u) m (place (h - 1) g p) x (omega arith) counted b.within
    (d.items ∙ ap (λ z. insert z (place (h - 1) g p) x) (sym b.list)) in
    let same = length-set (children old) i k in
    let ln : length (children new) ≡ length (children old) + 1 =
    ap length ek ∙ length-insert (set (children old) i k) (i + 1) u (omega arith) ∙ ap (λ z. z + 1) same in
    let lr : length (row new) ≡ length (row old) + 1 = ap length er ∙ length-insert (row old) i m (omega arith) in
    record {
      items = rw (flat-inner h new t.inner, er, e1, flat-inner h old t.inner, b.place_is) e2;
      formed = inner-formed h new t.inner (record { within = omega arith; one_more = omega arith; has_room = rm }) (rw ek (All-insert (IsChild (h - 1)) (set (children old) i k) (i + 1) u (All-set (IsChild (h - 1)) (children old) i k d.low b.below) d.high));
      longer = omega arith;
      inner = let e = d.inner in omega (arith, inners-inner h new t.inner, inners-inner h old t.inner, ap (inners_of (h - 1)) ek, sum_by-insert (λ k. inners (h - 1) k) (set (children old) i k) (i + 1) u, inners_set h old p i g k t);
    }

-- both parts of a row that was split have five indexes or six
split_sizes :
    {xs : List ℕ} {i x : ℕ} {low : List ℕ} {m : ℕ} {high : List ℕ}
    → IsSplit xs i x low m high
    → (least_in_row ≤ length low) × (length low ≤ least_in_row + 1)
    × (least_in_row ≤ length high) × (length high ≤ least_in_row + 1)
split_sizes {i = i} c =
    let sum = c.high_length in
    elim (cases_lt least_in_row i) [
      | inl q ↦ let e = c.low_length.1 q in (omega arith, omega arith, omega arith, omega arith)
      | inr q ↦ let e = c.low_length.0 q in (omega arith, omega arith, omega arith, omega arith)
    ]

-- the child was split, and so is the node, which was full
pub split_here :
    (h : ℕ) (old new : Node) (m2 : ℕ) (up : Node) (p : List ℕ) (x : ℕ) (i : ℕ) (g k : Node) (m : ℕ) (u : Node)
    → IsTaken h old p i g
    → Split (h - 1) g k m u p x
    → IsSplit (row old) i m (row new) m2 (row up)
    → children new ++ children up ≡ insert (set (children old) i k) (i + 1) u
    → length (children new) ≡ length (row new) + 1
    → most_children ≤ child_room new
    → most_children ≤ child_room up
    → Split h old new m2 up p x
split_here h old new m2 up p x i g k m u t d c ek lk rm ru =
    let b = taken h old p i g t in
    let f : Node → List ℕ = λ k. flat (h - 1) k in
    let ls : List (List ℕ) = lists (h - 1) (children old) in
    let one = b.node.one_more in
    let counted = lists-one_more h old t.inner t.formed in
    let here = b.here in
    let e1 : lists (h - 1) (children new) ++ lists (h - 1) (children up) ≡ insert (set ls i (f k)) (i + 1) (f u) =
    sym (map-append f (children new) (children up)) ∙ ap (λ z. lists (h - 1) z) ek
    ∙ map-insert f (set (children old) i k) (i + 1) u
    ∙ ap (λ z. insert z (i + 1) (f u)) (map-set f (children old) i k) in
    let e2 =
    widened i (row old) ls [] (f k) (f u) m (place (h - 1) g p) x (omega arith) counted b.within
    (d.items ∙ ap (λ z. insert z (place (h - 1) g p) x) (sym b.list)) in
    let lm = length-map (children new) f in
    let e3 : weave (row new ++ m2 ∷ row up) (lists (h - 1) (children new) ++ lists (h - 1) (children up)) ≡ weave (row new) (lists (h - 1) (children new)) ++ m2 ∷ weave (row up) (lists (h - 1) (children up)) =
    weave-append (row new) m2 (row up) (lists (h - 1) (children new)) (lists (h - 1) (children up)) (omega arith) in
    let e4 : weave (row new ++ m2 ∷ row up) (lists (h - 1) (children new) ++ lists (h - 1) (children up)) ≡ weave (insert (row old) i m) (insert (set ls i (f k)) (i + 1) (f u)) =
    ap (λ z. weave z (lists (h - 1) (children new) ++ lists (h - 1) (children up))) c.is
    ∙ ap (λ z. weave (insert (row old) i m) z) e1 in
    let sizes = split_sizes c in
    let same = length-set (children old) i k in
    let la = length-append (children new) (children up) in
    let ln : length (children new ++ children up) ≡ length (children old) + 1 =
    ap length ek ∙ length-insert (set (children old) i k) (i + 1) u (omega arith) ∙ ap (λ z. z + 1) same in
    let lx = length-append (row new) (m2 ∷ row up) in
    let lr : length (row new ++ m2 ∷ row up) ≡ length (row old) + 1 =
    ap length c.is ∙ length-insert (row old) i m (omega arith) in
    let every : All (IsChild (h - 1)) (children new ++ children up) = rw ek (All-insert (IsChild (h - 1)) (set (children old) i k) (i + 1) u (All-set (IsChild (h - 1)) (children old) i k d.low b.below) d.high) in
    record {
      items =
          rw (flat-inner h new t.inner, flat-inner h up t.inner, flat-inner h old t.inner, b.place_is)
          (sym e3 ∙ e4 ∙ e2);
      low = (sizes.0, inner-formed h new t.inner (record { within = omega arith; one_more = lk; has_room = rm }) (All-front (IsChild (h - 1)) (children new) (children up) every));
      high = (sizes.2, inner-formed h up t.inner (record { within = omega arith; one_more = omega arith; has_room = ru }) (All-back (IsChild (h - 1)) (children new) (children up) every));
      inner = let e = d.inner in let deep = t.inner in omega (arith, inners-inner h new t.inner, inners-inner h up t.inner, inners-inner h old t.inner, ap (inners_of (h - 1)) ek, sum_by-append (λ k. inners (h - 1) k) (children new) (children up), sum_by-insert (λ k. inners (h - 1) k) (set (children old) i k) (i + 1) u, inners_set h old p i g k t);
    }

-- the place of a path in a leaf
pub leaf_place : (h : ℕ) (n : Node) (p : List ℕ) → h ≡ 0 → ReachesGap h n p → slice_index p h ≤ length (row n)
leaf_place h n p e g = rw e (goes-leaf h n p e g)

-- at a leaf with room
pub put_leaf :
    (h : ℕ) (old new : Node) (p : List ℕ) (i x : ℕ)
    → h ≡ 0
    → IsFormed h old
    → ReachesGap h old p
    → i ≡ slice_index p h
    → length (row old) < most_in_row
    → row new ≡ insert (row old) i x
    → children new ≡ children old
    → IsPut h old new p x 0
put_leaf h old new p i x e f g at lt er ek =
    let l = formed-leaf h old e f in
    let le : i ≤ length (row old) = rw at (leaf_place h old p e g) in
    let lr : length (row new) ≡ length (row old) + 1 = ap length er ∙ length-insert (row old) i x le in
    record {
      items =
          rw (flat-leaf h new e, flat-leaf h old e, place-leaf h old p e)
          (er ∙ ap (λ z. insert (row old) z x) (at ∙ ap (slice_index p) e));
      formed = leaf-formed h new e (record { within = omega arith; childless = ek ∙ l.childless });
      longer = omega arith;
      inner = omega (arith, inners-leaf h new e, inners-leaf h old e);
    }

-- at a full leaf
pub split_leaf :
    (h : ℕ) (old new : Node) (m : ℕ) (up : Node) (p : List ℕ) (i x : ℕ)
    → h ≡ 0
    → IsFormed h old
    → ReachesGap h old p
    → i ≡ slice_index p h
    → IsSplit (row old) i x (row new) m (row up)
    → children new ≡ children old
    → children up ≡ []
    → Split h old new m up p x
split_leaf h old new m up p i x e f g at c ek eu =
    let l = formed-leaf h old e f in
    let sizes = split_sizes c in
    record {
      items =
          rw (flat-leaf h new e, flat-leaf h up e, flat-leaf h old e, place-leaf h old p e)
          (c.is ∙ ap (λ z. insert (row old) z x) (at ∙ ap (slice_index p) e));
      low = (sizes.0, leaf-formed h new e (record { within = omega arith; childless = ek ∙ l.childless }));
      high = (sizes.2, leaf-formed h up e (record { within = omega arith; childless = eu }));
      inner = omega (arith, inners-leaf h new e, inners-leaf h up e, inners-leaf h old e);
    }

-- if a path's nodes at levels below k are full and the one at k isn't, this holds of the part below the node too
pub full_child :
    (k h : ℕ) (old : Node) (p : List ℕ) (i : ℕ) (g : Node)
    → IsTaken h old p i g
    → IsFullBelow k h old p
    → IsFullBelow k (h - 1) g p
full_child k h old p i g t f =
    let b = taken h old p i g t in
    let on = full-on k h old p t.inner f in
    let same : g ≡ child old (slice_index p h) = b.same ∙ ap (λ z. child old z) t.at in
    rw same on

-- a full node, among full ones
pub full_row : (h : ℕ) (n : Node) (p : List ℕ) → IsFormed h n → IsFullBelow (h + 1) h n p → length (row n) ≡ most_in_row
full_row h n p f full =
    let most = formed-within h n f in
    let least = (full-here (h + 1) h n p full).0 (omega arith) in
    omega arith

-- if all nodes of a path are full, they are full below any level above the node's
pub all_full : (k l h : ℕ) (n : Node) (p : List ℕ) → h < l → l ≤ k → IsFullBelow k h n p → IsFullBelow l h n p
unfolding IsFullBelow
all_full k l zero n p lt le f = ((λ q. f.0 (omega arith)), (λ q. absurd (omega arith)))
all_full k l (suc h) n p lt le f = (((λ q. f.0.0 (omega arith)), (λ q. absurd (omega arith))), all_full k l h (child n (slice_index p (suc h))) p (omega arith) le f.1)
