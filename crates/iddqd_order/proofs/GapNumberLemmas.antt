-- The gaps of a node's children, counted through: where a path goes after the node was mended.
use Rattle.iddqd_order.proofs.Names.{◌≡◌, ◌≢◌, ◌∙◌, ℕ, zero, suc, ◌+◌, ◌-◌, ◌<◌, ◌≤◌, List, [], ◌∷◌, ◌++◌, length, get_or, slice_index, refl, sym, ap, arith, sub-one, append-nil, append_assoc, length-append, length-map, map-append, get_or_append_left, get_or-append-add, get_or_default, All, All-head, All-tail, cases_eq, inl, inr, InGap, Passes, ReachesGap, Node, row, children, child, weave, before, flat, place, IsFormed, LeadsBelow, place_below, joined_rows, all_children, gaps_before}
use Rattle.iddqd_order.proofs.NodeLemmas.{lists, formed-inner, flat-inner, flat-leaf, below-holds, reaches-here, goes-inner, place-inner, place-leaf}

-- before a list of the front part
before-front :
    (i : ℕ) (xs ys : List ℕ) (ks ls : List (List ℕ))
    → length ks ≡ length xs + 1
    → i ≤ length xs
    → before i (xs ++ ys) (ks ++ ls) ≡ before i xs ks
before-front zero xs ys ks ls one le = refl
before-front (suc i) [] ys ks ls one le = absurd (omega arith)
before-front (suc i) (x ∷ xs) ys [] ls one le = absurd (omega arith)
before-front (suc i) (x ∷ xs) ys (k ∷ ks) ls one le =
    ap (λ z. k ++ x ∷ z) (before-front i xs ys ks ls (omega arith) (omega arith))

-- before a list behind that
before-behind :
    (i j : ℕ) (xs : List ℕ) (m : ℕ) (ys : List ℕ) (ks ls : List (List ℕ))
    → i ≡ length xs + 1 + j
    → length ks ≡ length xs + 1
    → before i (xs ++ m ∷ ys) (ks ++ ls) ≡ weave xs ks ++ m ∷ before j ys ls
before-behind zero j xs m ys ks ls at one = absurd (omega arith)
before-behind (suc i) j xs m ys [] ls at one = absurd (omega arith)
before-behind (suc i) j [] m ys (k ∷ []) ls at one =
    let same : i ≡ j = omega arith in ap (λ z. k ++ m ∷ before z ys ls) same
before-behind (suc i) j [] m ys (k ∷ (l ∷ ks)) ls at one = absurd (omega arith)
before-behind (suc i) j (x ∷ xs) m ys (k ∷ ks) ls at one =
    ap (λ z. k ++ x ∷ z) (before-behind i j xs m ys ks ls (omega arith) (omega arith))
    ∙ sym (append_assoc k (x ∷ weave xs ks) (m ∷ before j ys ls))

-- the rows of all nodes have one gap more than indexes, with those between the nodes
pub all_gaps :
    (xs : List ℕ) (ks : List Node)
    → length ks ≡ length xs + 1
    → gaps_before (length ks) ks ≡ length (joined_rows xs ks) + 1
all_gaps xs [] one = absurd (omega arith)
all_gaps [] (k ∷ []) one = omega arith
all_gaps [] (k ∷ (l ∷ ks)) one = absurd (omega arith)
all_gaps (x ∷ xs) (k ∷ ks) one =
    omega (arith, all_gaps xs ks (omega arith), length-append (row k) (x ∷ joined_rows xs ks))

-- the gaps of one node more
pub gaps_before-next :
    (i : ℕ) (ks : List Node) (d : Node)
    → i < length ks
    → gaps_before (suc i) ks ≡ gaps_before i ks + (length (row (get_or ks i d)) + 1)
gaps_before-next i [] d lt = absurd (omega arith)
gaps_before-next zero (k ∷ ks) d lt = omega arith
gaps_before-next (suc i) (k ∷ ks) d lt = omega (arith, gaps_before-next i ks d (omega arith))

pub gaps_before-all : (i : ℕ) (ks : List Node) → length ks ≤ i → gaps_before i ks ≡ gaps_before (length ks) ks
gaps_before-all zero [] le = refl
gaps_before-all zero (k ∷ ks) le = absurd (omega arith)
gaps_before-all (suc i) [] le = refl
gaps_before-all (suc i) (k ∷ ks) le = omega (arith, gaps_before-all i ks (omega arith))

pub gaps_before-more : (i : ℕ) (ks : List Node) → gaps_before i ks ≤ gaps_before (length ks) ks
gaps_before-more zero ks = omega arith
gaps_before-more (suc i) [] = omega arith
gaps_before-more (suc i) (k ∷ ks) = omega (arith, gaps_before-more i ks)

-- in leaves, the gap is the place
leaf-gap :
    (h i : ℕ) (xs : List ℕ) (ks : List Node)
    → h ≡ 0
    → length ks ≡ length xs + 1
    → i < length ks
    → length (before i xs (lists h ks)) ≡ gaps_before i ks
leaf-gap h i xs [] e one lt = absurd (omega arith)
leaf-gap h zero xs (k ∷ ks) e one lt = refl
leaf-gap h (suc i) [] (k ∷ ks) e one lt = absurd (omega arith)
leaf-gap h (suc i) (x ∷ xs) (k ∷ ks) e one lt =
    omega (arith, ap length (flat-leaf h k e), length-append (flat h k) (x ∷ before i xs (lists h ks)), leaf-gap h i xs ks e (omega arith) (omega arith))

-- The i-th node's q-th gap is the j-th of all. Above the leaves, what is before it is before the j-th of all children.
module _ (h : ℕ) (ne : h ≢ 0) where
  counts :
      (k : Node) (ks : List Node)
      → All (λ k. IsFormed h k) (k ∷ ks)
      → length (lists (h - 1) (children k)) ≡ length (row k) + 1
  counts k ks f =
      omega (arith, (formed-inner h k ne (All-head (λ k. IsFormed h k) k ks f)).inner.one_more, length-map (children k) (λ k. flat (h - 1) k))

  inner-gap :
      (i q j : ℕ) (xs : List ℕ) (ks : List Node) (d : Node)
      → length ks ≡ length xs + 1
      → i < length ks
      → All (λ k. IsFormed h k) ks
      → q ≤ length (row (get_or ks i d))
      → j ≡ gaps_before i ks + q
      → length (before i xs (lists h ks))
      + length (before q (row (get_or ks i d)) (lists (h - 1) (children (get_or ks i d))))
      ≡ length (before j (joined_rows xs ks) (lists (h - 1) (all_children ks)))
  inner-gap i q j xs [] d one lt f le at = absurd (omega arith)
  inner-gap zero q j [] (k ∷ []) d one lt f le at =
      let same : q ≡ j = omega arith in
      let alone = sym (append-nil (children k)) in
      let whole : length (before q (row k) (lists (h - 1) (children k))) ≡ length (before j (row k) (lists (h - 1) (children k ++ []))) =
      (λ t. length (before (same t) (row k) (lists (h - 1) (alone t)))) in
      omega (arith, whole)
  inner-gap zero q j [] (k ∷ (l ∷ ks)) d one lt f le at = absurd (omega arith)
  inner-gap zero q j (x ∷ xs) (k ∷ ks) d one lt f le at =
      let same : j ≡ q = omega arith in
      let split = map-append (λ k. flat (h - 1) k) (children k) (all_children ks) in
      let front = before-front q (row k) (x ∷ joined_rows xs ks) (lists (h - 1) (children k)) (lists (h - 1) (all_children ks)) (counts k ks f) le in
      let whole : length (before j (row k ++ x ∷ joined_rows xs ks) (lists (h - 1) (children k ++ all_children ks)))
      ≡ length (before q (row k) (lists (h - 1) (children k))) =
      (λ t. length (before (same t) (row k ++ x ∷ joined_rows xs ks) (split t))) ∙ ap length front in
      omega (arith, whole)
  inner-gap (suc i) q j [] (k ∷ ks) d one lt f le at = absurd (omega arith)
  inner-gap (suc i) q j (x ∷ xs) (k ∷ ks) d one lt f le at =
      let u : ℕ = gaps_before i ks + q in
      let ih = inner-gap i q u xs ks d (omega arith) (omega arith) (All-tail (λ k. IsFormed h k) k ks f) le refl in
      let split = map-append (λ k. flat (h - 1) k) (children k) (all_children ks) in
      let ls : List (List ℕ) = lists (h - 1) (children k) in
      let rest : List ℕ = before u (joined_rows xs ks) (lists (h - 1) (all_children ks)) in
      let behind = before-behind j u (row k) x (joined_rows xs ks) ls (lists (h - 1) (all_children ks)) (omega arith) (counts k ks f) in
      let whole : length (before j (row k ++ x ∷ joined_rows xs ks) (lists (h - 1) (children k ++ all_children ks)))
      ≡ length (weave (row k) ls ++ x ∷ rest) =
      ap (λ z. length (before j (row k ++ x ∷ joined_rows xs ks) z)) split ∙ ap length behind in
      omega (arith, ih, whole, ap length (flat-inner h k ne), length-append (flat h k) (x ∷ before i xs (lists h ks)), length-append (weave (row k) ls) (x ∷ rest))

  -- and the child there is the j-th of all
  child-gap :
      (i q j : ℕ) (ks : List Node) (d e : Node)
      → i < length ks
      → All (λ k. IsFormed h k) ks
      → q ≤ length (row (get_or ks i d))
      → j ≡ gaps_before i ks + q
      → get_or (all_children ks) j e ≡ get_or (children (get_or ks i d)) q e
  child-gap i q j [] d e lt f le at = absurd (omega arith)
  child-gap zero q j (k ∷ ks) d e lt f le at =
      let one = (formed-inner h k ne (All-head (λ k. IsFormed h k) k ks f)).inner.one_more in
      let same : j ≡ q = omega arith in
      ap (λ z. get_or (children k ++ all_children ks) z e) same
      ∙ get_or_append_left (children k) (all_children ks) e q (omega arith)
  child-gap (suc i) q j (k ∷ ks) d e lt f le at =
      let one = (formed-inner h k ne (All-head (λ k. IsFormed h k) k ks f)).inner.one_more in
      let u : ℕ = gaps_before i ks + q in
      let same : j ≡ length (children k) + u = omega arith in
      ap (λ z. get_or (children k ++ all_children ks) z e) same
      ∙ get_or-append-add (children k) (all_children ks) u e
      ∙ child-gap i q u ks d e (omega arith) (All-tail (λ k. IsFormed h k) k ks f) le refl

-- only the places of a path from a node's level down matter below the node
passes-alike :
    (l : ℕ) (n : Node) (p q : List ℕ)
    → ((m : ℕ) → m ≤ l → slice_index q m ≡ slice_index p m)
    → Passes InGap 0 l n p
    → Passes InGap 0 l n q
unfolding Passes
passes-alike zero n p q same g = (g.0, rw (same 0 (omega arith)) g.1)
passes-alike (suc l) n p q same g =
    let e = same (suc l) (omega arith) in
    (g.0, λ none. absurd (omega arith), λ le. let d = g.2 (omega arith) in (rw e d.0, rw e (passes-alike l (child n (slice_index p (suc l))) p q (λ m le. same m (omega arith)) d.1)))

pub goes-alike :
    (l : ℕ) (n : Node) (p q : List ℕ)
    → ((m : ℕ) → m ≤ l → slice_index q m ≡ slice_index p m)
    → ReachesGap l n p
    → ReachesGap l n q
goes-alike l n p q same g = record { passes = passes-alike l n p q same g.passes }

pub place-alike :
    (l : ℕ) (n : Node) (p q : List ℕ)
    → ((m : ℕ) → m ≤ l → slice_index q m ≡ slice_index p m)
    → place l n q ≡ place l n p
place-alike zero n p q same = place-leaf 0 n q refl ∙ same 0 (omega arith) ∙ sym (place-leaf 0 n p refl)
place-alike (suc l) n p q same =
    let ne : suc l ≢ 0 = λ e. absurd (omega arith) in
    let i : ℕ = slice_index p (suc l) in
    let e = same (suc l) (omega arith) in
    let a = rw (e, sub-one) at (place-inner (suc l) n q ne) in
    let b = rw sub-one at (place-inner (suc l) n p ne) in
    let below = place-alike l (child n i) p q (λ m le. same m (omega arith)) in
    omega (arith, a, b, below)

-- a gap of a leaf
pub goes-leaf_gap : (l : ℕ) (n : Node) (p : List ℕ) → l ≡ 0 → slice_index p l ≤ length (row n) → ReachesGap l n p
goes-leaf_gap zero n p e le = reaches-here InGap 0 n p le
goes-leaf_gap (suc l) n p e le = absurd (omega arith)

pub place-leaf_gap : (l : ℕ) (n : Node) (p : List ℕ) → l ≡ 0 → place l n p ≡ slice_index p l
place-leaf_gap zero n p e = place-leaf 0 n p refl
place-leaf_gap (suc l) n p e = absurd (omega arith)

-- The path q goes to the gap below the nodes ls, with the indexes ys between them, to which p goes below ks with xs.
pub record LeadsAlike (h : ℕ) (xs ys : List ℕ) (ks ls : List Node) (p q : List ℕ) : Type 0 where
  pub leads : LeadsBelow h ls q
  pub same : (d e : Node) → place_below h ys ls d q ≡ place_below h xs ks e p

-- it does if it is the same gap of all, counted through
module _
    (h : ℕ) (xs ys : List ℕ) (ks ls : List Node) (p q : List ℕ)
    (one : length ks ≡ length xs + 1)
    (new_one : length ls ≡ length ys + 1)
    (formed : All (λ k. IsFormed (h - 1) k) ks)
    (new_formed : All (λ k. IsFormed (h - 1) k) ls)
    (rows : joined_rows ys ls ≡ joined_rows xs ks)
    (below : all_children ls ≡ all_children ks)
    (leads : LeadsBelow h ks p)
    (here : slice_index q h < length ls)
    (within : (d : Node) → slice_index q (h - 1) ≤ length (row (get_or ls (slice_index q h) d)))
    (number : gaps_before (slice_index q h) ls + slice_index q (h - 1)
    ≡ gaps_before (slice_index p h) ks + slice_index p (h - 1))
    (lower : (m : ℕ) → m < h - 1 → slice_index q m ≡ slice_index p m)
  where
    in-leaves : h - 1 ≡ 0 → LeadsAlike h xs ys ks ls p q
    in-leaves e = record {
      leads = record {
        here = here;
        on = λ d. goes-leaf_gap (h - 1) (get_or ls (slice_index q h) d) q e (within d);
      };
      same = λ d c.
          let lt = leads.here in
          omega (arith, number, leaf-gap (h - 1) (slice_index q h) ys ls e new_one here, leaf-gap (h - 1) (slice_index p h) xs ks e one lt, place-leaf_gap (h - 1) (get_or ls (slice_index q h) d) q e, place-leaf_gap (h - 1) (get_or ks (slice_index p h) c) p e);
    }

    -- what is below the child to which both go
    record Grandchild (d c : Node) : Type 0 where
      pub inside : slice_index q (h - 1) < length (children (get_or ls (slice_index q h) d))
      pub on : ReachesGap (h - 1 - 1) (child (get_or ls (slice_index q h) d) (slice_index q (h - 1))) q
      pub same : place_below h ys ls d q ≡ place_below h xs ks c p

    grandchild : h - 1 ≢ 0 → (d c : Node) → Grandchild d c
    grandchild ne d c =
        let i : ℕ = slice_index q h in
        let j : ℕ = slice_index p h in
        let u : ℕ = gaps_before j ks + slice_index p (h - 1) in
        let new : Node = get_or ls i d in
        let old : Node = get_or ks j c in
        let lt = leads.here in
        let down = goes-inner (h - 1) old p ne (leads.on c) in
        let old_one = (formed-inner (h - 1) old ne (formed j c lt)).inner.one_more in
        let new_one_more = (formed-inner (h - 1) new ne (new_formed i d here)).inner.one_more in
        let old_lt = down.here in
        let fits : slice_index p (h - 1) ≤ length (row old) = omega arith in
        let le = within d in
        let new_lt : slice_index q (h - 1) < length (children new) = omega arith in
        let same_child : child new (slice_index q (h - 1)) ≡ child old (slice_index p (h - 1)) =
        sym (child-gap (h - 1) ne i (slice_index q (h - 1)) u ls d new here new_formed le (sym number))
        ∙ ap (λ z. get_or z u new) below
        ∙ child-gap (h - 1) ne j (slice_index p (h - 1)) u ks c new lt formed fits refl
        ∙ get_or_default (children old) (slice_index p (h - 1)) new old old_lt in
        let lower_still : (m : ℕ) → m ≤ h - 1 - 1 → slice_index q m ≡ slice_index p m = λ m le. lower m (omega arith) in
        let old_place = place-inner (h - 1) old p ne in
        let new_place = place-inner (h - 1) new q ne in
        let old_gap = inner-gap (h - 1) ne j (slice_index p (h - 1)) u xs ks c one lt formed fits refl in
        let new_gap = inner-gap (h - 1) ne i (slice_index q (h - 1)) u ys ls d new_one here new_formed le (sym number) in
        let whole : length (before u (joined_rows ys ls) (lists (h - 1 - 1) (all_children ls))) ≡ length (before u (joined_rows xs ks) (lists (h - 1 - 1) (all_children ks))) =
        (λ t. length (before u (rows t) (lists (h - 1 - 1) (below t)))) in
        let tail : place (h - 1 - 1) (child new (slice_index q (h - 1))) q ≡ place (h - 1 - 1) (child old (slice_index p (h - 1))) p =
        ap (λ z. place (h - 1 - 1) z q) same_child ∙ place-alike (h - 1 - 1) (child old (slice_index p (h - 1))) p q lower_still in
        record {
          inside = new_lt;
          on = rw same_child (goes-alike (h - 1 - 1) (child old (slice_index p (h - 1))) p q lower_still down.on);
          same = omega (arith, old_place, new_place, old_gap, new_gap, whole, tail);
        }

    pub led-alike : LeadsAlike h xs ys ks ls p q
    led-alike = elim (cases_eq (h - 1) 0) [
      | inl e ↦ in-leaves e
      | inr ne ↦ record {
        leads = record {
          here = here;
          on = λ d.
              let g = grandchild ne d d in
              below-holds 0 (h - 1) (get_or ls (slice_index q h) d) q ne g.inside g.on;
        };
        same = λ d c. (grandchild ne d c).same;
      }
    ]
