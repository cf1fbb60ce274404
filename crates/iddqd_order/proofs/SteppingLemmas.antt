-- Where a path to a node goes, one level at a time, and what stands beside the node.
use Rattle.iddqd_order.proofs.Names.{◌≡◌, ◌≢◌, ◌∙◌, ℕ, zero, suc, ◌+◌, ◌-◌, ◌<◌, ◌≤◌, List, [], ◌++◌, length, get_or, slice_index, slice_set, refl, sym, ap, arith, true, false, nat_eq, eq-eqb, ne_eqb, cases_eq, inl, inr, sub-one, length-append, length-map, length-set, Option, Some, None, Node, row, children, child, before, after, flat, IsFormed, place, IsTree, in_order, most_levels, ReachesGapIn, place_in, LeadsToIndex, ReachesIndexIn, place_at_level_in, get_or_default, ◌*◌, bound, row_asks, IsAt, leaf, leaf_in, to_gap}
use Rattle.iddqd_order.proofs.NodeLemmas.{flat-leaf, lists, lists-one_more, lists-at, child-within, child-formed, flat-inner, path-here, path-above, below-holds, reaches-here, place-leaf, place-inner}
use Rattle.iddqd_order.proofs.DescentLemmas.{after-last, before-next, row-woven, row-part, row_place, child-read, child_is, holds_index-here, holds_index-below}
use Rattle.iddqd_order.proofs.ReckoningLemmas.{reckoning-tree}
use Rattle.iddqd_order.proofs.WeaveLemmas.{apart, index_place, within}
use Rattle.std.proofs.lemmas.Option.{slice_get-get_or}
use Rattle.std.specs.List.{slice_get}
use Rattle.iddqd_order.specs.Node.{InGap}
use Rattle.iddqd_order.specs.MapBTreeTable.{Order}
use Rattle.iddqd_order.specs.Stepping.{Enters, GoesTo, node_at, start, Narrows, GoesToIn, row_in, low_in, high_in, StandsBetween, IsAllBetween}

-- a path to the node itself
pub goes-here : (l h : ℕ) (n : Node) (p : List ℕ) → l ≡ h → GoesTo l h n p
unfolding Enters
goes-here l zero n p e = record { enters = e }
goes-here l (suc h) n p e = record { enters = (omega arith, λ le. absurd (omega arith)) }

pub node_at-here : (l h : ℕ) (n : Node) (p : List ℕ) → l ≡ h → node_at l h n p ≡ n
unfolding node_at
node_at-here l zero n p e = refl
node_at-here l (suc h) n p e = let t : nat_eq l (suc h) ≡ true = eq-eqb l (suc h) e in rw t

pub start-here : (l h : ℕ) (n : Node) (p : List ℕ) → l ≡ h → start l h n p ≡ 0
unfolding start
start-here l zero n p e = refl
start-here l (suc h) n p e = let t : nat_eq l (suc h) ≡ true = eq-eqb l (suc h) e in rw t

-- and to one below a child
pub goes-level : (l h : ℕ) (n : Node) (p : List ℕ) → GoesTo l h n p → l ≤ h
unfolding Enters
goes-level l zero n p g = let e : l ≡ 0 = g.enters in omega arith
goes-level l (suc h) n p g = g.enters.0

pub record GoesUnder (l h : ℕ) (n : Node) (p : List ℕ) : Type 0 where
  pub here : slice_index p h < length (children n)
  pub on : GoesTo l (h - 1) (child n (slice_index p h)) p

pub under : (l h : ℕ) (n : Node) (p : List ℕ) → l < h → GoesTo l h n p → GoesUnder l h n p
unfolding Enters
under l zero n p lt g = absurd (omega arith)
under l (suc h) n p lt g =
    let q = g.enters.1 (omega arith) in record { here = q.0; on = rw sub-one (record { enters = q.1 }) }

pub goes-under : (l h : ℕ) (n : Node) (p : List ℕ) → h ≢ 0 → GoesUnder l h n p → GoesTo l h n p
unfolding Enters
goes-under l zero n p ne g = absurd (ne refl)
goes-under l (suc h) n p ne g =
    let below : GoesTo l h (child n (slice_index p (suc h))) p = rw sub-one at g.on in
    let le = goes-level l h (child n (slice_index p (suc h))) p below in
    record { enters = (omega arith, λ _. (g.here, below.enters)) }

pub node_at-under :
    (l h : ℕ) (n : Node) (p : List ℕ)
    → l < h
    → node_at l h n p ≡ node_at l (h - 1) (child n (slice_index p h)) p
unfolding node_at
node_at-under l zero n p lt = absurd (omega arith)
node_at-under l (suc h) n p lt =
    let t : nat_eq l (suc h) ≡ false = ne_eqb l (suc h) (λ e. absurd (omega arith)) in rw (t, sub-one)

pub start-under :
    (l h : ℕ) (n : Node) (p : List ℕ)
    → l < h
    → start l h n p
    ≡ length (before (slice_index p h) (row n) (lists (h - 1) (children n)))
    + start l (h - 1) (child n (slice_index p h)) p
unfolding start
start-under l zero n p lt = absurd (omega arith)
start-under l (suc h) n p lt =
    let t : nat_eq l (suc h) ≡ false = ne_eqb l (suc h) (λ e. absurd (omega arith)) in rw (t, sub-one)

-- a path to a node ends at it, or goes on below a child
split_level : (l h : ℕ) (n : Node) (p : List ℕ) → GoesTo l h n p → l ≢ h → l < h
split_level l h n p g ne = let le = goes-level l h n p g in omega arith

pub node_at-formed :
    (l h : ℕ) (n : Node) (p : List ℕ)
    → IsFormed h n
    → GoesTo l h n p
    → IsFormed l (node_at l h n p)
node_at-formed l zero n p f g =
    let e : l ≡ 0 = (let le = goes-level l zero n p g in omega arith) in
    rw (node_at-here l zero n p e, e) f
node_at-formed l (suc h) n p f g =
    elim (cases_eq l (suc h)) [
      | inl e ↦ rw (node_at-here l (suc h) n p e, e) f
      | inr ne ↦
          (let lt = split_level l (suc h) n p g ne in
          let u = under l (suc h) n p lt g in
          let below = child-formed (suc h) n (slice_index p (suc h)) (λ e. absurd (omega arith)) f u.here in
          rw (node_at-under l (suc h) n p lt, sub-one)
          (node_at-formed l h _ p (rw sub-one at below) (rw sub-one at u.on)))
    ]

-- all below a node stands together in the whole list
pub record Spans (l h : ℕ) (n : Node) (p : List ℕ) : Type 0 where
  pub within : start l h n p + length (flat l (node_at l h n p)) ≤ length (flat h n)
  pub at : (j : ℕ) → j < length (flat l (node_at l h n p))
      → slice_index (flat h n) (start l h n p + j) ≡ slice_index (flat l (node_at l h n p)) j

spans-here : (l h : ℕ) (n : Node) (p : List ℕ) → l ≡ h → Spans l h n p
spans-here l h n p e =
    let s = start-here l h n p e in
    record {
      within = rw (start-here l h n p e, node_at-here l h n p e, e) (omega arith);
      at = λ j lt.
          let none : 0 + j ≡ j = omega arith in
          rw (start-here l h n p e, node_at-here l h n p e, e) (ap (slice_index (flat h n)) none);
    }

pub spans : (l h : ℕ) (n : Node) (p : List ℕ) → IsFormed h n → GoesTo l h n p → Spans l h n p
spans l zero n p f g = spans-here l zero n p (let le = goes-level l zero n p g in omega arith)
spans l (suc h) n p f g =
    elim (cases_eq l (suc h)) [
      | inl e ↦ spans-here l (suc h) n p e
      | inr ne ↦
          (let lt = split_level l (suc h) n p g ne in
          let inner : suc h ≢ 0 = λ e. absurd (omega arith) in
          let i : ℕ = slice_index p (suc h) in
          let u = under l (suc h) n p lt g in
          let below : IsFormed h (child n i) = rw sub-one at (child-formed (suc h) n i inner f u.here) in
          let s = spans l h (child n i) p below (rw sub-one at u.on) in
          let xs : List ℕ = row n in let ks : List (List ℕ) = lists h (children n) in
          let b : ℕ = length (before i xs ks) in
          let one : length ks ≡ length xs + 1 = rw sub-one at (lists-one_more (suc h) n inner f) in
          let from : start l (suc h) n p ≡ b + start l h (child n i) p = rw sub-one at (start-under l (suc h) n p lt) in
          let is : node_at l (suc h) n p ≡ node_at l h (child n i) p = rw sub-one at (node_at-under l (suc h) n p lt) in
          let list : get_or ks i [] ≡ flat h (child n i) = lists-at h n i u.here in
          let fits = s.within in
          let longer : b + length (flat h (child n i)) ≤ length (flat (suc h) n) =
          rw (flat-inner (suc h) n inner, sub-one, ← list)
          (within i xs ks [] (length (get_or ks i [])) (omega (arith, u.here, length-map (children n) (λ k. flat h k)))
          one (omega arith)) in
          record {
            within = rw (from, is) (omega arith);
            at = λ j low. rw (from, is)
                (let inside : start l h (child n i) p + j < length (flat h (child n i)) =
                (let lo : j < length (flat l (node_at l h (child n i) p)) = rw is at low in omega arith) in
                let sum : (b + start l h (child n i) p) + j ≡ b + (start l h (child n i) p + j) = omega arith in
                rw sum ((rw sub-one at
                (child-read (suc h) n i (start l h (child n i) p + j) inner f u.here (rw sub-one inside)))
                ∙ s.at j (rw is at low)));
          })
    ]

-- one step down: the path q goes to the i-th child of the node to which p goes
pub record StepsDown (l h i : ℕ) (n : Node) (p q : List ℕ) : Type 0 where
  pub goes : GoesTo (l - 1) h n q
  pub node : node_at (l - 1) h n q ≡ child (node_at l h n p) i
  pub begins : start (l - 1) h n q
      ≡ start l h n p + length (before i (row (node_at l h n p)) (lists (l - 1) (children (node_at l h n p))))

steps-here :
    (l h i : ℕ) (n : Node) (p q : List ℕ)
    → l ≡ h
    → l ≢ 0
    → i < length (children (node_at l h n p))
    → slice_index q l ≡ i
    → StepsDown l h i n p q
steps-here l h i n p q e ne lt at =
    let is = node_at-here l h n p e in
    let to : slice_index q h ≡ i = rw e at at in
    let inner : h ≢ 0 = λ z. ne (e ∙ z) in
    let down : l - 1 ≡ h - 1 = omega arith in
    let less : l - 1 < h = omega arith in
    record {
      goes = goes-under (l - 1) h n q inner
          (record { here = rw (to, ← is) lt; on = goes-here (l - 1) (h - 1) _ q down });
      node = node_at-under (l - 1) h n q less ∙ node_at-here (l - 1) (h - 1) _ q down ∙ ap (child n) to
          ∙ sym (ap (λ z. child z i) is);
      begins = start-under (l - 1) h n q less
          ∙ (rw (start-here (l - 1) (h - 1) (child n (slice_index q h)) q down, to, start-here l h n p e, is, ← e)
          (omega arith));
    }

pub steps-down :
    (l h i : ℕ) (n : Node) (p q : List ℕ)
    → l ≢ 0
    → GoesTo l h n p
    → i < length (children (node_at l h n p))
    → slice_index q l ≡ i
    → ((m : ℕ) → l < m → slice_index q m ≡ slice_index p m)
    → StepsDown l h i n p q
steps-down l zero i n p q ne g lt at above = absurd (let le = goes-level l zero n p g in omega arith)
steps-down l (suc h) i n p q ne g lt at above =
    elim (cases_eq l (suc h)) [
      | inl e ↦ steps-here l (suc h) i n p q e ne lt at
      | inr other ↦
          (let less = split_level l (suc h) n p g other in
          let c : ℕ = slice_index p (suc h) in
          let u = under l (suc h) n p less g in
          let same : slice_index q (suc h) ≡ c = above (suc h) less in
          let is : node_at l (suc h) n p ≡ node_at l h (child n c) p =
          rw sub-one at (node_at-under l (suc h) n p less) in
          let from : start l (suc h) n p ≡ length (before c (row n) (lists h (children n))) + start l h (child n c) p =
          rw sub-one at (start-under l (suc h) n p less) in
          let s = steps-down l h i (child n c) p q ne (rw sub-one at u.on) (rw is at lt) at (λ m up. above m up) in
          let to = s.begins in
          let low : l - 1 < suc h = omega arith in
          let one : suc h - 1 ≡ h = omega arith in
          let is2 : node_at (l - 1) (suc h) n q ≡ node_at (l - 1) h (child n c) q =
          rw (one, same) at (node_at-under (l - 1) (suc h) n q low) in
          let from2 : start (l - 1) (suc h) n q ≡ length (before c (row n) (lists h (children n))) + start (l - 1) h
          (child n c) q =
          rw (one, same) at (start-under (l - 1) (suc h) n q low) in
          record {
            goes = goes-under (l - 1) (suc h) n q (λ z. absurd (omega arith))
                (record { here = rw same u.here; on = rw (same, one) s.goes });
            node = is2 ∙ s.node ∙ sym (ap (λ z. child z i) is);
            begins = rw is (omega arith);
          })
    ]

-- what stands beside the i-th child of a node in the list of the node
record Beside (l i : ℕ) (k : Node) : Type 0 where
  inside : i < length (children k)
  list : length (get_or (lists (l - 1) (children k)) i []) ≡ length (flat (l - 1) (child k i))
  first : i ≡ 0 → length (before i (row k) (lists (l - 1) (children k))) ≡ 0
  behind : 0 < i → (index_place (i - 1) (row k) (lists (l - 1) (children k)) < length (flat l k))
      × (length (before i (row k) (lists (l - 1) (children k)))
      ≡ index_place (i - 1) (row k) (lists (l - 1) (children k)) + 1)
      × (slice_index (flat l k) (index_place (i - 1) (row k) (lists (l - 1) (children k)))
      ≡ slice_index (row k) (i - 1))
  ahead : i < length (row k) → (index_place i (row k) (lists (l - 1) (children k)) < length (flat l k))
      × (slice_index (flat l k) (index_place i (row k) (lists (l - 1) (children k))) ≡ slice_index (row k) i)
  last : length (row k) ≤ i → index_place i (row k) (lists (l - 1) (children k)) ≡ length (flat l k)

beside : (l i : ℕ) (k : Node) → l ≢ 0 → IsFormed l k → i ≤ length (row k) → Beside l i k
beside l i k ne f le =
    let xs : List ℕ = row k in let ks : List (List ℕ) = lists (l - 1) (children k) in
    let one : length ks ≡ length xs + 1 = lists-one_more l k ne f in
    let lt : i < length (children k) = child-within l k i ne f le in
    let whole = flat-inner l k ne in
    let m = row-woven xs ks one in
    record {
      inside = lt;
      list = ap length (lists-at (l - 1) k i lt);
      first = λ e. rw e refl;
      behind = λ some.
          let back : i - 1 + 1 ≡ i = omega arith in
          let next : length (before (i - 1 + 1) xs ks) ≡ index_place (i - 1) xs ks + 1 =
          before-next (i - 1) xs ks (omega arith) one in
          (rw whole (m.within (i - 1) (omega arith)), rw back at next, rw whole (m.at (i - 1) (omega arith)));
      ahead = λ low. (rw whole (m.within i low), rw whole (m.at i low));
      last = λ over.
          let parts = ap length (apart i xs ks [] (omega arith) one) in
          let none = ap length (after-last i xs ks over one) in
          rw whole (omega (
            arith,
            parts,
            none,
            length-append (before i xs ks) (get_or ks i [] ++ after i xs ks),
            length-append (get_or ks i []) (after i xs ks),
          ));
    }

pub narrows :
    (l h i : ℕ) (n : Node) (p q : List ℕ)
    → l ≢ 0
    → IsFormed h n
    → GoesTo l h n p
    → i ≤ length (row (node_at l h n p))
    → StepsDown l h i n p q
    → Narrows (flat h n) (row (node_at l h n p)) (start l h n p) (start l h n p + length (flat l (node_at l h n p))) i
    (start (l - 1) h n q) (start (l - 1) h n q + length (flat (l - 1) (node_at (l - 1) h n q)))
narrows l h i n p q ne f g le s =
    let k : Node = node_at l h n p in
    let b = beside l i k ne (node_at-formed l h n p f g) le in
    let w = spans l h n p f g in
    let fits = w.within in
    let begins = s.begins in
    let long : length (flat (l - 1) (node_at (l - 1) h n q)) ≡ length (flat (l - 1) (child k i)) = ap (λ z.
    length (flat (l - 1) z)) s.node in
    let list = b.list in
    record {
      within = le;
      left = λ e. let none = b.first e in omega arith;
      behind = λ some.
          let t = b.behind some in
          let here = t.0 in let next = t.1 in
          let at : start (l - 1) h n q - 1 ≡ start l h n p + index_place (i - 1) (row k) (lists (l - 1) (children k)) =
          omega arith in
          (omega arith, ap (slice_index (flat h n)) at ∙ w.at _ here ∙ t.2);
      right = λ over. let all = b.last over in omega arith;
      ahead = λ low.
          let t = b.ahead low in
          let here = t.0 in
          let at : start (l - 1) h n q + length (flat (l - 1) (node_at (l - 1) h n q)) ≡ start l h n p + index_place i
          (row k) (lists (l - 1) (children k)) = omega arith in
          (omega arith, ap (slice_index (flat h n)) at ∙ w.at _ here ∙ t.1);
      ordered = omega arith;
      last = fits;
    }

child-itself : (n : Node) (i : ℕ) → i < length (children n) → child n i ≡ get_or (children n) i (child n i)
child-itself n i lt = sym (get_or_default (children n) i (child n i) n lt)

-- the same of the child that was read as k
pub record OnChild (l h i : ℕ) (n k : Node) (p : List ℕ) : Type 0 where
  pub less : l < h
  pub at : i ≡ slice_index p h
  pub here : i < length (children n)
  pub is : k ≡ child n i

pub on_child :
    (l h i : ℕ) (n k : Node) (p : List ℕ)
    → l < h
    → i ≡ slice_index p h
    → i < length (children n)
    → k ≡ get_or (children n) i k
    → OnChild l h i n k p
on_child l h i n k p lt e here is = record { less = lt; at = e; here = here; is = child_is n i k here is }

pub goes-on : {l h i : ℕ} {n k : Node} {p : List ℕ} → OnChild l h i n k p → GoesTo l (h - 1) k p → GoesTo l h n p
goes-on {l = l} {h = h} {i = i} {n = n} {k = k} {p = p} o g =
    let less = o.less in
    let at = o.at in
    let is = o.is in
    goes-under l h n p (λ z. absurd (omega arith))
    (record { here = rw (← at) o.here; on = rw (← at, ← is) g })

pub on-goes : {l h i : ℕ} {n k : Node} {p : List ℕ} → OnChild l h i n k p → GoesTo l h n p → GoesTo l (h - 1) k p
on-goes {l = l} {h = h} {i = i} {n = n} {k = k} {p = p} o g =
    let at = o.at in let is = o.is in rw (is, at) (under l h n p o.less g).on

pub node_at-on :
    {l h i : ℕ} {n k : Node} {p : List ℕ}
    → OnChild l h i n k p
    → (m : Node)
    → m ≡ node_at l (h - 1) k p
    → m ≡ node_at l h n p
node_at-on {l = l} {h = h} {i = i} {n = n} {k = k} {p = p} o m e =
    let at = o.at in let is = o.is in
    e ∙ ap (λ z. node_at l (h - 1) z p) (is ∙ ap (child n) at) ∙ sym (node_at-under l h n p o.less)

-- the node where a search begins
enter-in : (r : Option Node) (h l : ℕ) (p : List ℕ) → l ≡ h → IsTree r h → GoesToIn l r h p
enter-in None h l p e t = e ∙ t
enter-in (Some n) h l p e t = goes-here l h n p e

low-in : (r : Option Node) (h l : ℕ) (p : List ℕ) → l ≡ h → low_in l r h p ≡ 0
low-in None h l p e = refl
low-in (Some n) h l p e = start-here l h n p e

high-in : (r : Option Node) (h l : ℕ) (p : List ℕ) → l ≡ h → high_in l r h p ≡ length (in_order r h)
high-in None h l p e = refl
high-in (Some n) h l p e =
    let from = start-here l h n p e in
    let is : length (flat l (node_at l h n p)) ≡ length (flat h n) = ap (λ z. length (flat l z))
    (node_at-here l h n p e) ∙ ap (λ z. length (flat z n)) e in
    omega arith

pub enter-node :
    (t : Order) (p : List ℕ) (l : ℕ)
    → l ≡ t.height
    → IsTree t.root t.height
    → GoesToIn l t.root t.height p
enter-node t p l e tree = enter-in t.root t.height l p e tree

pub enter-low : (t : Order) (p : List ℕ) (l : ℕ) → l ≡ t.height → low_in l t.root t.height p ≡ 0
enter-low t p l e = low-in t.root t.height l p e

pub enter-high :
    (t : Order) (p : List ℕ) (l : ℕ)
    → l ≡ t.height
    → high_in l t.root t.height p ≡ length (in_order t.root t.height)
enter-high t p l e = high-in t.root t.height l p e

-- the child at a place
pub child-at :
    (t : Order) (p q : List ℕ) (l i : ℕ)
    → IsTree t.root t.height
    → GoesToIn l t.root t.height p
    → l ≢ 0
    → i ≤ length (row_in l t.root t.height p)
    → l < most_levels
    → q ≡ slice_set p l i
    → length q ≡ most_levels
    → GoesToIn (l - 1) t.root t.height q
    × Narrows (in_order t.root t.height) (row_in l t.root t.height p) (low_in l t.root t.height p)
    (high_in l t.root t.height p) i (low_in (l - 1) t.root t.height q) (high_in (l - 1) t.root t.height q)
child-at t p q l i tree g ne le lt set len = child-in t.root t.height l i p q tree g ne le lt set len
  where
    child-in :
        (r : Option Node) (h l i : ℕ) (p q : List ℕ)
        → IsTree r h
        → GoesToIn l r h p
        → l ≢ 0
        → i ≤ length (row_in l r h p)
        → l < most_levels
        → q ≡ slice_set p l i
        → length q ≡ most_levels
        → GoesToIn (l - 1) r h q
        × Narrows (in_order r h) (row_in l r h p) (low_in l r h p) (high_in l r h p) i (low_in (l - 1) r h q)
        (high_in (l - 1) r h q)
    child-in None h l i p q tree g ne le lt set len = absurd (ne g)
    child-in (Some n) h l i p q tree g ne le lt set len =
        let long : length p ≡ most_levels = sym (length-set p l i) ∙ sym (ap length set) ∙ len in
        let f = node_at-formed l h n p tree.0 g in
        let s = steps-down l h i n p q ne g (child-within l (node_at l h n p) i ne f le) (path-here p q l i long lt set)
        (λ m up. path-above p q l i m set up) in
        (s.goes, narrows l h i n p q ne tree.0 g le s)

-- an index of a row
leads-node :
    (l h i ix : ℕ) (n : Node) (p q : List ℕ)
    → IsFormed h n
    → GoesTo l h n p
    → i < length (row (node_at l h n p))
    → slice_index (row (node_at l h n p)) i ≡ ix
    → slice_index q l ≡ i
    → ((m : ℕ) → l < m → slice_index q m ≡ slice_index p m)
    → LeadsToIndex l h n q ix
leads-node l zero i ix n p q f g lt is at above =
    let e : l ≡ 0 = (let le = goes-level l zero n p g in omega arith) in
    let same = node_at-here l 0 n p e in
    let to : slice_index q 0 ≡ i = rw e at at in
    rw e (holds_index-here 0 n q ix f (rw (to, ← same) lt) (rw (to, ← same) is))
leads-node l (suc h) i ix n p q f g lt is at above =
    elim (cases_eq l (suc h)) [
      | inl e ↦
          (let same = node_at-here l (suc h) n p e in
          let to : slice_index q (suc h) ≡ i = rw e at at in
          rw e (holds_index-here (suc h) n q ix f (rw (to, ← same) lt) (rw (to, ← same) is)))
      | inr other ↦
          (let less = split_level l (suc h) n p g other in
          let ne : suc h ≢ 0 = λ e. absurd (omega arith) in
          let c : ℕ = slice_index p (suc h) in
          let one : suc h - 1 ≡ h = omega arith in
          let u = under l (suc h) n p less g in
          let same : node_at l (suc h) n p ≡ node_at l h (child n c) p = rw one at (node_at-under l (suc h) n p less) in
          let below : IsFormed h (child n c) = rw one at (child-formed (suc h) n c ne f u.here) in
          let ih = leads-node l h i ix (child n c) p q below (rw one at u.on) (rw same at lt) (rw same at is) at
          (λ m up. above m up) in
          holds_index-below l (suc h) c n (child n c) q ix ne f (above (suc h) less) u.here (child-itself n c u.here)
          (rw one ih))
    ]

pub leads-at :
    (t : Order) (p q : List ℕ) (l i ix : ℕ)
    → IsTree t.root t.height
    → GoesToIn l t.root t.height p
    → i < length (row_in l t.root t.height p)
    → slice_index (row_in l t.root t.height p) i ≡ ix
    → l < most_levels
    → q ≡ slice_set p l i
    → length q ≡ most_levels
    → ReachesIndexIn l t.root t.height q
    × (slice_index (in_order t.root t.height) (place_at_level_in l t.root t.height q) ≡ ix)
leads-at t p q l i ix tree g lt is low set len =
    leads-in t.root t.height l i ix p q tree g lt is
    (path-here p q l i (sym (length-set p l i) ∙ sym (ap length set) ∙ len) low set)
    (λ m up. path-above p q l i m set up)
  where
    leads-in :
        (r : Option Node) (h l i ix : ℕ) (p q : List ℕ)
        → IsTree r h
        → GoesToIn l r h p
        → i < length (row_in l r h p)
        → slice_index (row_in l r h p) i ≡ ix
        → slice_index q l ≡ i
        → ((m : ℕ) → l < m → slice_index q m ≡ slice_index p m)
        → ReachesIndexIn l r h q × (slice_index (in_order r h) (place_at_level_in l r h q) ≡ ix)
    leads-in None h l i ix p q tree g lt is at above = absurd (omega arith)
    leads-in (Some n) h l i ix p q tree g lt is at above = leads-node l h i ix n p q tree.0 g lt is at above

-- a gap of a leaf
pub record IsGapOf (r : Option Node) (h i : ℕ) (p q : List ℕ) : Type 0 where
  pub goes : ReachesGapIn r h q
  pub place_is : place_in r h q ≡ low_in 0 r h p + i

gap-node :
    (h i : ℕ) (n : Node) (p q : List ℕ)
    → GoesTo 0 h n p
    → i ≤ length (row (node_at 0 h n p))
    → slice_index q 0 ≡ i
    → ((m : ℕ) → 0 < m → slice_index q m ≡ slice_index p m)
    → IsGapOf (Some n) h i p q
gap-node zero i n p q g le at above =
    let is = node_at-here 0 0 n p refl in
    let from = start-here 0 0 n p refl in
    let to = place-leaf 0 n q refl in
    record { goes = reaches-here InGap 0 n q (rw (at, ← is) le); place_is = omega arith }
gap-node (suc h) i n p q g le at above =
    let ne : suc h ≢ 0 = λ e. absurd (omega arith) in
    let lt : 0 < suc h = omega arith in
    let c : ℕ = slice_index p (suc h) in
    let one : suc h - 1 ≡ h = omega arith in
    let u = under 0 (suc h) n p lt g in
    let same : slice_index q (suc h) ≡ c = above (suc h) lt in
    let is : node_at 0 (suc h) n p ≡ node_at 0 h (child n c) p = rw one at (node_at-under 0 (suc h) n p lt) in
    let from : start 0 (suc h) n p ≡ length (before c (row n) (lists h (children n))) + start 0 h (child n c) p =
    rw one at (start-under 0 (suc h) n p lt) in
    let s = gap-node h i (child n c) p q (rw one at u.on) (rw is at le) at (λ m up. above m up) in
    let to : place (suc h) n q ≡ length (before c (row n) (lists h (children n))) + place h (child n c) q =
    rw (one, same) at (place-inner (suc h) n q ne) in
    let below = s.place_is in
    record {
      goes = below-holds 0 (suc h) n q ne (rw same u.here) (rw (same, one) s.goes);
      place_is = omega arith;
    }

pub gap-of :
    (t : Order) (p q : List ℕ) (l i : ℕ)
    → GoesToIn l t.root t.height p
    → l ≡ 0
    → i ≤ length (row_in l t.root t.height p)
    → q ≡ slice_set p 0 i
    → length q ≡ most_levels
    → IsGapOf t.root t.height i p q
gap-of t p q l i g e le set len =
    gap-in t.root t.height i p q (rw e at g) (rw e at le)
    (path-here p q 0 i (sym (length-set p 0 i) ∙ sym (ap length set) ∙ len) (omega arith) set)
    (λ m up. path-above p q 0 i m set up)
  where
    gap-in :
        (r : Option Node) (h i : ℕ) (p q : List ℕ)
        → GoesToIn 0 r h p
        → i ≤ length (row_in 0 r h p)
        → slice_index q 0 ≡ i
        → ((m : ℕ) → 0 < m → slice_index q m ≡ slice_index p m)
        → IsGapOf r h i p q
    gap-in None h i p q g le at above = record { goes = omega arith; place_is = omega arith }
    gap-in (Some n) h i p q g le at above = gap-node h i n p q g le at above

pub tree-levels : (r : Option Node) (h : ℕ) → IsTree r h → h < most_levels
tree-levels None h t = omega arith
tree-levels (Some n) h t = t.2

-- the row of a leaf is all that stands in its span
pub leaf-span :
    (t : Order) (p : List ℕ) (l : ℕ)
    → IsTree t.root t.height
    → l ≡ 0
    → GoesToIn l t.root t.height p
    → IsAllBetween (in_order t.root t.height) (row_in l t.root t.height p) (low_in l t.root t.height p)
    (high_in l t.root t.height p)
leaf-span t p l tree e g = leaf-in t.root t.height l p tree e g
  where
    leaf-in :
        (r : Option Node) (h l : ℕ) (p : List ℕ)
        → IsTree r h
        → l ≡ 0
        → GoesToIn l r h p
        → IsAllBetween (in_order r h) (row_in l r h p) (low_in l r h p) (high_in l r h p)
    leaf-in None h l p tree e g =
        record { long = omega arith; index = λ j lt. absurd (omega arith); within = omega arith }
    leaf-in (Some n) h l p tree e g =
        let s = spans l h n p tree.0 g in
        let is : flat l (node_at l h n p) ≡ row (node_at l h n p) = flat-leaf l (node_at l h n p) e in
        let long = ap length is in
        record {
          long = omega arith;
          index = λ j lt. s.at j (omega arith) ∙ ap (λ z. slice_index z j) is;
          within = s.within;
        }

-- the row of the child that was read as k
pub child-row :
    (r : Option Node) (h l i : ℕ) (n k : Node) (p q : List ℕ)
    → r ≡ Some n
    → GoesTo l h n p
    → l ≢ 0
    → i < length (children (node_at l h n p))
    → l < most_levels
    → k ≡ child (node_at l h n p) i
    → q ≡ slice_set p l i
    → length q ≡ most_levels
    → row k ≡ row_in (l - 1) r h q
child-row r h l i n k p q e g ne lt low is set len =
    let long : length p ≡ most_levels = sym (length-set p l i) ∙ sym (ap length set) ∙ len in
    let s = steps-down l h i n p q ne g lt (path-here p q l i long low set) (λ m up. path-above p q l i m set up) in
    ap row (is ∙ sym s.node) ∙ ap (λ z. row_in (l - 1) z h q) (sym e)

-- the row of a node stands in the list
stands-node :
    (l h : ℕ) (n : Node) (p : List ℕ)
    → IsFormed h n
    → GoesTo l h n p
    → StandsBetween (flat h n) (row (node_at l h n p)) (start l h n p)
    (start l h n p + length (flat l (node_at l h n p)))
stands-node l h n p f g =
    let k : Node = node_at l h n p in
    let m = row-part l k (node_at-formed l h n p f g) in
    let s = spans l h n p f g in
    record {
      place = λ i. start l h n p + row_place l k i;
      from = λ i lt. omega arith;
      to = λ i lt. let inside = m.within i lt in omega arith;
      index = λ i lt. s.at _ (m.within i lt) ∙ m.at i lt;
      rises = λ i j lt within. let less = m.rises i j lt within in omega arith;
      within = s.within;
    }

pub stands-at :
    (t : Order) (p : List ℕ) (l : ℕ)
    → IsTree t.root t.height
    → GoesToIn l t.root t.height p
    → StandsBetween (in_order t.root t.height) (row_in l t.root t.height p) (low_in l t.root t.height p)
    (high_in l t.root t.height p)
stands-at t p l tree g = stands-in t.root t.height l p tree g
  where
    stands-in :
        (r : Option Node) (h l : ℕ) (p : List ℕ)
        → IsTree r h
        → GoesToIn l r h p
        → StandsBetween (in_order r h) (row_in l r h p) (low_in l r h p) (high_in l r h p)
    stands-in None h l p tree g =
        record {
          place = λ i. i;
          from = λ i lt. absurd (omega arith);
          to = λ i lt. absurd (omega arith);
          index = λ i lt. absurd (omega arith);
          rises = λ i j lt within. lt;
          within = omega arith;
        }
    stands-in (Some n) h l p tree g = stands-node l h n p tree.0 g

-- a search takes four asks at each level
pub enter-asks :
    (t : Order) (l : ℕ)
    → l ≡ t.height
    → IsTree t.root t.height
    → row_asks * (l + 1) ≤ bound (length (in_order t.root t.height))
enter-asks t l e tree = asks-in t.root t.height l e tree
  where
    asks-in :
        (r : Option Node) (h l : ℕ)
        → l ≡ h
        → IsTree r h
        → row_asks * (l + 1) ≤ bound (length (in_order r h))
    asks-in None h l e tree = let none : h ≡ 0 = tree in omega arith
    asks-in (Some n) h l e tree = let few = reckoning-tree (Some n) h 0 tree (omega arith) (omega arith) in omega arith

-- the leaf to which a path goes
leaf-node :
    (h : ℕ) (n : Node) (p q : List ℕ)
    → ((m : ℕ) → 0 < m → slice_index q m ≡ slice_index p m)
    → row (node_at 0 h n p) ≡ leaf h n q
unfolding node_at leaf
leaf-node zero n p q above = refl
leaf-node (suc h) n p q above =
    let lt : 0 < suc h = omega arith in
    let is : node_at 0 (suc h) n p ≡ node_at 0 h (child n (slice_index p (suc h))) p =
    rw sub-one at (node_at-under 0 (suc h) n p lt) in
    ap row is ∙ leaf-node h (child n (slice_index p (suc h))) p q above
    ∙ ap (λ c. leaf h (child n c) q) (sym (above (suc h) lt))

pub leaf-in :
    (r : Option Node) (h : ℕ) (p q : List ℕ)
    → ((m : ℕ) → 0 < m → slice_index q m ≡ slice_index p m)
    → row_in 0 r h p ≡ leaf_in r h q
leaf-in None h p q above = refl
leaf-in (Some n) h p q above = leaf-node h n p q above

-- a cursor at a gap of a leaf
pub is-at :
    (t : Order) (p : List ℕ) (l i : ℕ)
    → GoesToIn l t.root t.height p
    → l ≡ 0
    → i ≤ length (row_in l t.root t.height p)
    → length p ≡ most_levels
    → IsAt t.root t.height p (row_in l t.root t.height p) i
    × (place_in t.root t.height (to_gap p i) ≡ low_in l t.root t.height p + i)
is-at t p l i g e le long =
    let whole : length (to_gap p i) ≡ most_levels = length-set p 0 i ∙ long in
    let gap = gap-of t p (to_gap p i) l i g e le refl whole in
    let leaf-is = leaf-in t.root t.height p (to_gap p i) (λ m up. path-above p (to_gap p i) 0 i m refl up) in (
      record {
        gap = record { whole = long; goes = gap.goes };
        leaf = ap (λ z. row_in z t.root t.height p) e ∙ leaf-is;
        within = le;
      },
      gap.place_is ∙ ap (λ z. low_in z t.root t.height p + i) (sym e),
    )

-- what stands in a list is read there
pub none_past : (xs : List ℕ) (i : ℕ) → i < length xs → slice_get xs i ≡ None → ⊥
none_past xs i lt none = let some = slice_get-get_or xs i 0 lt in cc
