-- A walk down a tree: what the search of a row says of the search of the tree.
use Rattle.iddqd_order.proofs.Names.{◌*◌, LeadsToIndex, get_or_default, append-nil, cases_lt, get_or_at, get_or_append_left, sub-one, ◌≡◌, ◌≢◌, ◌∙◌, ℕ, zero, suc, ◌+◌, ◌-◌, ◌<◌, ◌≤◌, List, [], ◌∷◌, ◌++◌, length, get_or, drop, slice_index, Contains, refl, sym, ap, subst, arith, inl, inr, Option, Some, None, Result, Ok, Err, IfOk, length-append, append_assoc, sub-one, add-one, cases_lt, get_or-append-add, length-map, Contains-append_cases, Ordering, Greater, Mut, Asking, Node, row, children, child, weave, before, after, flat, IsFormed, place_at_level, FullBelow, IsFullBelow, Askable, CanSearch, with_ties, IsRising, IsPlace, SearchesWithin, end_at, level_of, IfErr-weaker, index_at, Descends, FindsIn, most_in_row, row_asks, InGap}
use Rattle.iddqd_order.specs.Descent.{Seeks}
use Rattle.iddqd.proofs.StoreLemmas.{contains_cases}
use Rattle.iddqd_order.proofs.AskLemmas.{asks_none, asks_wider, CanAsk-fewer, CanAsk-later, Steady-fewer}
pub use Rattle.iddqd_order.proofs.NodeLemmas.{lists-one_more, lists-at, child-within, child-formed, path-here, path-above, holds-here, below-holds}
use Rattle.iddqd_order.proofs.NodeLemmas.{lists, flat-leaf, flat-inner, reaches-here, holds-level, place_at_level-leaf, place_at_level-at, place_at_level-below, place_at_level-within}
use Rattle.iddqd_order.proofs.PartLemmas.{Embeds, Askable-whole, IsRising-part, shifted, SearchesWithin-more, Searches-hit, LeadsTo, Searches-part}
use Rattle.iddqd_order.proofs.SearchLemmas.{AreSplit, split-init, split-less, split-greater}
use Rattle.iddqd_order.proofs.WeaveLemmas.{apart, index_place, within}
use Rattle.iddqd_order.proofs.WeaveRemovalLemmas.{weave-within, weave-within_at}

-- after the i-th list the i-th index begins
pub after-begins : (i : ℕ) (xs : List ℕ) (ks : List (List ℕ)) (d : ℕ) → i < length xs → length ks ≡ length xs + 1
    → after i xs ks ≡ get_or xs i d ∷ weave (drop (suc i) xs) (drop (suc i) ks)
after-begins i [] ks d lt e = absurd (omega arith)
after-begins i (x ∷ xs) [] d lt e = absurd (omega arith)
after-begins zero (x ∷ xs) (k ∷ ks) d lt e = refl
after-begins (suc i) (x ∷ xs) (k ∷ ks) d lt e = after-begins i xs ks d (omega arith) (omega arith)

-- after the last list nothing does
pub after-last :
    (i : ℕ) (xs : List ℕ) (ks : List (List ℕ))
    → length xs ≤ i
    → length ks ≡ length xs + 1
    → after i xs ks ≡ []
after-last zero [] ks le e = refl
after-last zero (x ∷ xs) ks le e = absurd (omega arith)
after-last (suc i) [] ks le e = refl
after-last (suc i) (x ∷ xs) [] le e = absurd (omega arith)
after-last (suc i) (x ∷ xs) (k ∷ ks) le e = after-last i xs ks (omega arith) (omega arith)

-- before the next list the i-th one and the i-th index stand last
pub before-more : (i : ℕ) (xs : List ℕ) (ks : List (List ℕ)) (d : ℕ) → i < length xs → length ks ≡ length xs + 1
    → before (suc i) xs ks ≡ before i xs ks ++ (get_or ks i [] ++ get_or xs i d ∷ [])
before-more i [] ks d lt e = absurd (omega arith)
before-more i (x ∷ xs) [] d lt e = absurd (omega arith)
before-more zero (x ∷ xs) (k ∷ ks) d lt e = refl
before-more (suc i) (x ∷ xs) (k ∷ ks) d lt e =
    ap (λ z. k ++ x ∷ z) (before-more i xs ks d (omega arith) (omega arith))
    ∙ sym (append_assoc k (x ∷ before i xs ks) (get_or ks i [] ++ get_or xs i d ∷ []))

pub before-next :
    (i : ℕ) (xs : List ℕ) (ks : List (List ℕ))
    → i < length xs
    → length ks ≡ length xs + 1
    → length (before (i + 1) xs ks) ≡ index_place i xs ks + 1
before-next i xs ks lt e =
    let k : List ℕ = get_or ks i [] in
    let more = ap length (before-more i xs ks 0 lt e) in
    let next : length (before (i + 1) xs ks) ≡ length (before (suc i) xs ks) =
    ap (λ z. length (before z xs ks)) (add-one i) in
    omega (arith, more, next, length-append (before i xs ks) (k ++ get_or xs i 0 ∷ []), length-append k (get_or xs i 0 ∷ []))

index_place-mono :
    (i j : ℕ) (xs : List ℕ) (ks : List (List ℕ))
    → i < j
    → j < length xs
    → length ks ≡ length xs + 1
    → index_place i xs ks < index_place j xs ks
index_place-mono i zero xs ks lt within e = absurd (omega arith)
index_place-mono i (suc j) [] ks lt within e = absurd (omega arith)
index_place-mono i (suc j) (x ∷ xs) [] lt within e = absurd (omega arith)
index_place-mono zero (suc j) (x ∷ xs) (k ∷ ks) lt within e = omega (arith, length-append k (x ∷ before j xs ks))
index_place-mono (suc i) (suc j) (x ∷ xs) (k ∷ ks) lt within e =
    let less = index_place-mono i j xs ks (omega arith) (omega arith) (omega arith) in
    omega (arith, length-append k (x ∷ before i xs ks), length-append k (x ∷ before j xs ks))

module _ (xs : List ℕ) (ks : List (List ℕ)) (one_more : length ks ≡ length xs + 1) where
  -- the row and each list stand in the woven list
  pub row-woven : Embeds xs (weave xs ks) (λ i. index_place i xs ks)
  row-woven = record {
    within = λ i lt. weave-within_at i xs ks [] lt one_more;
    at = λ i lt.
        let b : List ℕ = before i xs ks in
        let k : List ℕ = get_or ks i [] in
        ap (λ z. get_or z (index_place i xs ks) 0) (apart i xs ks [] (omega arith) one_more ∙ ap (λ z. b ++ (k ++ z)) (after-begins i xs ks 0 lt one_more) ∙ sym (append_assoc b k _))
        ∙ get_or_at (b ++ k) (get_or xs i 0) _ 0 (index_place i xs ks) (length-append b k);
    rises = λ i j lt within. index_place-mono i j xs ks lt within one_more;
  }

  list-woven : (i : ℕ) → i < length ks → Embeds (get_or ks i []) (weave xs ks) (λ j. length (before i xs ks) + j)
  list-woven i lt = record {
    within = λ j low. weave-within i xs ks [] j lt one_more low;
    at = λ j low.
        ap (λ z. get_or z (length (before i xs ks) + j) 0) (apart i xs ks [] lt one_more)
        ∙ get_or-append-add (before i xs ks) (get_or ks i [] ++ after i xs ks) j 0
        ∙ get_or_append_left (get_or ks i []) (after i xs ks) 0 j low;
    rises = λ j m less low. omega arith;
  }

  -- where the row is Greater before i and Less from i on, the i-th list stands between what is Greater and what is Less
  split-woven :
      (a : ℕ → Ordering) (i : ℕ)
      → IsRising a (weave xs ks)
      → IsPlace a xs i
      → AreSplit a (weave xs ks) (length (before i xs ks)) (index_place i xs ks)
  split-woven a i r p =
      elim (cases_lt i (length xs)) [
        | inl lt ↦ split-less r (row-woven.within i lt) (below i p.within p.greater_before) (ap a (row-woven.at i lt) ∙ p.less_from i (omega arith) lt)
        | inr over ↦
            let end : index_place i xs ks ≡ length ws =
            sym (ap length (apart i xs ks [] (let le = p.within in omega arith) one_more ∙ ap (λ z. before i xs ks ++ (get_or ks i [] ++ z)) (after-last i xs ks over one_more) ∙ ap (λ z. before i xs ks ++ z) (append-nil (get_or ks i []))) ∙ length-append (before i xs ks) (get_or ks i [])) in
            rw end (below i p.within p.greater_before)
      ]
    where
      ws : List ℕ
      ws = weave xs ks

      below :
          (i : ℕ)
          → i ≤ length xs
          → ((k : ℕ) → k < i → a (get_or xs k 0) ≡ Greater)
          → AreSplit a ws (length (before i xs ks)) (length ws)
      below zero le greater = split-init a ws
      below (suc j) le greater =
          let next : length (before (suc j) xs ks) ≡ index_place j xs ks + 1 =
          rw (← add-one) (before-next j xs ks (omega arith) one_more) in
          rw next (split-greater r (row-woven.within j (omega arith)) (split-init a ws) (ap a (row-woven.at j (omega arith)) ∙ greater j (omega arith)))

pub child_is : (n : Node) (i : ℕ) (k : Node) → i < length (children n) → k ≡ get_or (children n) i k → k ≡ child n i
child_is n i k lt e = e ∙ get_or_default (children n) i k n lt

-- where the i-th index of a node stands in its list
abbrev pub row_place : ℕ → Node → ℕ → ℕ
row_place zero n i = i
row_place (suc h) n i = index_place i (row n) (lists h (children n))

pub row-part : (l : ℕ) (n : Node) → IsFormed l n → Embeds (row n) (flat l n) (λ i. row_place l n i)
unfolding flat
row-part zero n f = record { within = λ i lt. lt; at = λ i lt. refl; rises = λ i j lt within. lt }
row-part (suc h) n f =
    row-woven (row n) (lists h (children n)) (rw sub-one at (lists-one_more (suc h) n (λ e. absurd (omega arith)) f))

-- where a path goes that ends at the node
place_at_level-here :
    (l : ℕ) (n : Node) (p : List ℕ)
    → IsFormed l n
    → slice_index p l ≤ length (row n)
    → place_at_level l l n p ≡ row_place l n (slice_index p l)
place_at_level-here zero n p f le = place_at_level-leaf zero zero n p refl
place_at_level-here (suc h) n p f le =
    let ne : suc h ≢ 0 = λ e. absurd (omega arith) in
    rw (place_at_level-at (suc h) (suc h) n p ne refl, sub-one, lists-at h n (slice_index p (suc h)) (child-within (suc h) n (slice_index p (suc h)) ne f le)) refl

-- the list of the i-th child stands in the whole
child-part :
    (l : ℕ) (n : Node) (i : ℕ)
    → l ≢ 0
    → IsFormed l n
    → i < length (children n)
    → Embeds (flat (l - 1) (child n i)) (flat l n) (λ j. length (before i (row n) (lists (l - 1) (children n))) + j)
child-part l n i ne f lt =
    rw (flat-inner l n ne, ← lists-at (l - 1) n i lt) (list-woven (row n) (lists (l - 1) (children n)) (lists-one_more l n ne f) i (omega (arith, length-map (children n) (λ k. flat (l - 1) k))))

pub full-at :
    (k l : ℕ) (n : Node) (p : List ℕ)
    → FullBelow k l n
    → (l ≢ 0 → IsFullBelow k (l - 1) (child n (slice_index p l)) p)
    → IsFullBelow k l n p
unfolding IsFullBelow
full-at k zero n p h below = h
full-at k (suc l) n p h below = (h, rw sub-one at (below (λ e. absurd (omega arith))))

-- what `full_from` makes of `full` at the node n, which has the level l
pub record Counts (n : Node) (full l full_below : ℕ) : Type 0 where
  pub above : l < full
  pub not_full : length (row n) < most_in_row → full_below ≡ l
  pub is_full : most_in_row ≤ length (row n) → full_below ≡ full

-- and so whether the node n is full
pub counts_here :
    (n : Node) (full l full_below k : ℕ)
    → Counts n full l full_below
    → (l ≤ k → k ≡ full_below)
    → FullBelow k l n × (l < k → k ≡ full)
counts_here n full l full_below k c on =
    elim (cases_lt (length (row n)) most_in_row) [
      | inl lt ↦ (let is = c.not_full lt in ((λ up. absurd (omega arith), λ e. lt), λ up. absurd (omega arith)))
      | inr ge ↦ (let is = c.is_full ge in let up = c.above in ((λ _. ge, λ e. absurd (omega arith)), λ up. omega arith))
    ]

pub child-read :
    (l : ℕ) (n : Node) (i j : ℕ)
    → l ≢ 0
    → IsFormed l n
    → i < length (children n)
    → j < length (flat (l - 1) (child n i))
    → slice_index (flat l n)
    (length (before i (row n) (lists (l - 1) (children n))) + j) ≡ slice_index (flat (l - 1) (child n i)) j
child-read l n i j ne f lt within = (child-part l n i ne f lt).at j within

-- the first index of the first child is the first of all
pub behind-first :
    (l ix : ℕ) (n : Node)
    → l ≢ 0
    → IsFormed l n
    → 0 < length (children n)
    → (0 < length (flat (l - 1) (child n 0))) × (ix ≡ slice_index (flat (l - 1) (child n 0)) 0)
    → (0 < length (flat l n)) × (ix ≡ slice_index (flat l n) 0)
behind-first l ix n ne f lt is =
    let part = child-part l n 0 ne f lt in
    (part.within 0 is.0, is.1 ∙ sym (child-read l n 0 0 ne f lt is.0))

pub behind-row :
    (l ix : ℕ) (n : Node)
    → l ≡ 0
    → 0 < length (row n)
    → ix ≡ slice_index (row n) 0
    → (0 < length (flat l n)) × (ix ≡ slice_index (flat l n) 0)
behind-row l ix n e some is = rw (flat-leaf l n e) (some, is)

module _ {F R : Type 0} (g : Mut F (ℕ × Unit {0}) R) (read : R → Ordering) (sought : Option ℕ) where
  -- the row may be asked where the tree may be
  pub can_ask_row :
      (l : ℕ) (n : Node) (a : Asking F)
      → IsFormed l n
      → CanSearch g (flat l n) sought a
      → CanSearch g (row n) sought a
  can_ask_row l n a f c =
      CanAsk-fewer g (Askable (row n) sought) (Askable (flat l n) sought) (Askable-whole (row-part l n f) sought) c

  -- a miss in the row leads to the child at that place
  leads-below :
      {k : ℕ} (l : ℕ) (n : Node) (i : ℕ) (a b : Asking F)
      → l ≢ 0
      → IsFormed l n
      → SearchesWithin g read (row n) k sought a (Err i) b
      → LeadsTo g read sought k (length (before i (row n) (lists (l - 1) (children n)))) (flat (l - 1) (child n i))
      (flat l n) a b
  leads-below l n i a b ne f s =
      let xs : List ℕ = row n in let ks : List (List ℕ) = lists (l - 1) (children n) in
      let one : length ks ≡ length xs + 1 = lists-one_more l n ne f in
      let le = s.missed in
      let lt : i < length (children n) = child-within l n i ne f le in
      let m = row-part l n f in
      record {
        part = child-part l n i ne f lt;
        within =
            rw (flat-inner l n ne, ← lists-at (l - 1) n i lt)
            (within i xs ks [] (length (get_or ks i [])) (omega arith) one (omega arith));
        asked = asks_wider g (Askable xs sought) (Askable (flat l n) sought) (Askable-whole m sought) s.asked;
        split = λ answer rises.
            let placed = s.place answer (record { steady = Steady-fewer g (Askable xs sought) (Askable (flat l n) sought) (Askable-whole m sought) rises.steady; rising = IsRising-part m (with_ties sought answer) rises.rising }) in
            rw (flat-inner l n ne, ← lists-at (l - 1) n i lt)
            (split-woven xs ks one (with_ties sought answer) i (rw (flat-inner l n ne) at rises.rising) placed);
      }

  -- and what may be asked in the tree may then be asked in that child
  pub can_ask_below :
      {k : ℕ} (l : ℕ) (n : Node) (i : ℕ) (a b : Asking F)
      → l ≢ 0
      → IsFormed l n
      → SearchesWithin g read (row n) k sought a (Err i) b
      → CanSearch g (flat l n) sought a
      → CanSearch g (flat (l - 1) (child n i)) sought b
  can_ask_below l n i a b ne f s c =
      let leads = leads-below l n i a b ne f s in
      CanAsk-fewer g (Askable (flat (l - 1) (child n i)) sought) (Askable (flat l n) sought)
      (Askable-whole leads.part sought) (CanAsk-later g (Askable (flat l n) sought) leads.asked.after c)

  -- a hit in the row is one in the tree
  Searches-row :
      (limit l : ℕ) (n : Node) (i : ℕ) (a b : Asking F)
      → row_asks ≤ limit
      → IsFormed l n
      → SearchesWithin g read (row n) row_asks sought a (Ok i) b
      → SearchesWithin g read (flat l n) limit sought a (Ok (row_place l n i)) b
  Searches-row limit l n i a b le f s =
      SearchesWithin-more g read sought (omega arith)
      (Searches-hit g read sought (row-part l n f) (asks_none g (Askable (flat l n) sought) a) i s)

  shifted-end : (end : Result ℕ ℕ) (b i : ℕ) → shifted b (end_at end i) ≡ end_at end (b + i)
  shifted-end (Ok l) b i = refl
  shifted-end (Err k) b i = refl

  -- the walk ends at an index of the node
  pub Descends-hit :
      (limit full l : ℕ) (n : Node) (p : List ℕ) (a b : Asking F)
      → row_asks ≤ limit
      → IsFormed l n
      → SearchesWithin g read (row n) row_asks sought a (Ok (slice_index p l)) b
      → Descends g read sought limit full l n a p (Ok l) b
  Descends-hit limit full l n p a b le f s =
      let lt = s.found in
      record {
        searches = rw (place_at_level-here l n p f (omega arith)) (Searches-row limit l n (slice_index p l) a b le f s);
        reaches = holds-here l n p lt;
        lower_end = tt;
      }

  -- or in a leaf
  pub Descends-leaf :
      (limit full full_below l : ℕ) (n : Node) (p : List ℕ) (a b : Asking F)
      → row_asks ≤ limit
      → l ≡ 0
      → IsFormed l n
      → SearchesWithin g read (row n) row_asks sought a (Err (slice_index p l)) b
      → Counts n full l full_below
      → Descends g read sought limit full l n a p (Err full_below) b
  Descends-leaf limit full full_below (suc h) n p a b le e f s c = absurd (omega arith)
  Descends-leaf limit full full_below zero n p a b le e f s c =
      let here = counts_here n full 0 full_below full_below c (λ _. refl) in
      record {
        searches =
            rw (flat-leaf zero n refl, place_at_level-leaf zero zero n p refl) (SearchesWithin-more g read sought le s);
        reaches = reaches-here InGap zero n p s.missed;
        lower_end = (full-at full_below zero n p here.0 (λ ne. absurd (ne refl)), here.1);
      }

  -- or below the node
  pub Descends-below :
      {m : ℕ} (limit full full_below l : ℕ) (n : Node) (p : List ℕ) (end : Result ℕ ℕ) (a b c : Asking F)
      → row_asks + m ≤ limit
      → l ≢ 0
      → IsFormed l n
      → SearchesWithin g read (row n) row_asks sought a (Err (slice_index p l)) b
      → Counts n full l full_below
      → Descends g read sought m full_below (l - 1) (child n (slice_index p l)) b p end c
      → Descends g read sought limit full l n a p end c
  Descends-below limit full full_below l n p end a b c le ne f s counts d =
      let i : ℕ = slice_index p l in
      let low = holds-level (level_of end) (l - 1) (child n i) p d.reaches in
      let on : place_at_level (level_of end) l n p ≡ length (before i (row n) (lists (l - 1) (children n))) + place_at_level (level_of end) (l - 1) (child n i) p =
      place_at_level-below (level_of end) l n p ne (λ e. absurd (omega arith)) in
      record {
        searches = rw (on, ← shifted-end end) (SearchesWithin-more g read sought le (Searches-part g read sought (leads-below l n i a b ne f s) (end_at end (place_at_level (level_of end) (l - 1) (child n i) p)) d.searches));
        reaches = below-holds (level_of end) l n p ne (child-within l n i ne f s.missed) d.reaches;
        lower_end = IfErr-weaker end _ _ (λ k q. let here = counts_here n full l full_below k counts (λ up. q.1 (omega arith)) in (full-at k l n p here.0 (λ _. q.0), here.1)) d.lower_end;
      }

  -- a walk to a gap ends in a leaf
  pub Seeks-leaf :
      (l : ℕ) (n : Node) (p : List ℕ) (a b : Asking F)
      → l ≡ 0
      → IsFormed l n
      → SearchesWithin g read (row n) row_asks sought a (Err (slice_index p l)) b
      → Seeks g read sought l n a p b
  Seeks-leaf (suc h) n p a b e f s = absurd (omega arith)
  Seeks-leaf zero n p a b e f s = record {
    searches =
        rw (flat-leaf zero n refl, place_at_level-leaf zero zero n p refl)
        (SearchesWithin-more g read sought (omega arith) s);
    reaches = reaches-here InGap zero n p s.missed;
  }

  -- or below the node
  pub Seeks-below :
      (l i : ℕ) (n : Node) (p : List ℕ) (a b c : Asking F)
      → l ≢ 0
      → slice_index p l ≡ i
      → IsFormed l n
      → SearchesWithin g read (row n) row_asks sought a (Err i) b
      → Seeks g read sought (l - 1) (child n i) b p c
      → Seeks g read sought l n a p c
  Seeks-below l i n p a b c ne at f s d =
      let on : place_at_level 0 l n p ≡ length (before i (row n) (lists (l - 1) (children n))) + place_at_level 0 (l - 1) (child n i) p =
      rw at at (place_at_level-below 0 l n p ne (λ e. absurd (omega arith))) in
      record {
        searches = rw on (SearchesWithin-more g read sought (omega arith) (Searches-part g read sought (leads-below l n i a b ne f s) (Err _) d.searches));
        reaches = below-holds 0 l n p ne (rw at (child-within l n i ne f s.missed)) (rw at d.reaches);
      }

  -- a find ends at an index of the node
  pub FindsIn-hit :
      (l : ℕ) (n : Node) (i ix : ℕ) (a b : Asking F)
      → IsFormed l n
      → SearchesWithin g read (row n) row_asks sought a (Ok i) b
      → ix ≡ slice_index (row n) i
      → FindsIn g read sought l n a (Some ix) b
  FindsIn-hit l n i ix a b f s e = record {
    end = Ok (row_place l n i);
    searches = Searches-row (row_asks * (l + 1)) l n i a b (omega arith) f s;
    index = ap Some (e ∙ sym ((row-part l n f).at i s.found));
  }

  -- or at none in a leaf
  pub FindsIn-leaf :
      (l : ℕ) (n : Node) (i : ℕ) (a b : Asking F)
      → l ≡ 0
      → IsFormed l n
      → SearchesWithin g read (row n) row_asks sought a (Err i) b
      → FindsIn g read sought l n a None b
  FindsIn-leaf l n i a b e f s =
      record {
        end = Err i;
        searches = rw (flat-leaf l n e) (SearchesWithin-more g read sought (omega arith) s);
        index = refl;
      }

  read-below :
      (l : ℕ) (n : Node) (i : ℕ) (end : Result ℕ ℕ)
      → l ≢ 0
      → IsFormed l n
      → i < length (children n)
      → IfOk end (λ j. j < length (flat (l - 1) (child n i)))
      → index_at (flat (l - 1) (child n i)) end ≡ index_at (flat l n)
      (shifted (length (before i (row n) (lists (l - 1) (children n)))) end)
  read-below l n i (Err j) ne f lt found = refl
  read-below l n i (Ok j) ne f lt found = ap Some (sym (child-read l n i j ne f lt found))

  -- or below the node
  pub FindsIn-below :
      (l : ℕ) (n : Node) (i : ℕ) (found : Option ℕ) (a b c : Asking F)
      → l ≢ 0
      → IsFormed l n
      → SearchesWithin g read (row n) row_asks sought a (Err i) b
      → FindsIn g read sought (l - 1) (child n i) b found c
      → FindsIn g read sought l n a found c
  FindsIn-below l n i found a b c ne f s t =
      let lt : i < length (children n) = child-within l n i ne f s.missed in
      record {
        end = shifted (length (before i (row n) (lists (l - 1) (children n)))) t.end;
        searches =
            SearchesWithin-more g read sought (omega arith)
            (Searches-part g read sought (leads-below l n i a b ne f s) t.end t.searches);
        index = t.index ∙ read-below l n i t.end ne f lt t.searches.found;
      }

-- what is neither in the row nor in a list is nowhere
absent_woven :
    (xs : List ℕ) (ks : List (List ℕ)) (x : ℕ)
    → length ks ≡ length xs + 1
    → (Contains xs x → ⊥)
    → ((k : ℕ) → k < length ks → Contains (get_or ks k []) x → ⊥)
    → Contains (weave xs ks) x
    → ⊥
absent_woven [] [] x one row below h = absurd (omega arith)
absent_woven [] (k ∷ []) x one row below h = below 0 (omega arith) h
absent_woven [] (k ∷ (k2 ∷ ks)) x one row below h = absurd (omega arith)
absent_woven (y ∷ xs) [] x one row below h = absurd (omega arith)
absent_woven (y ∷ xs) (k ∷ ks) x one row below h =
    elim (Contains-append_cases k (y ∷ weave xs ks) x h) [
      | inl left ↦ below 0 (omega arith) left
      | inr right ↦
          elim (contains_cases y x (weave xs ks) right) [
            | inl e ↦ row (0, omega arith, e)
            | inr rest ↦ absent_woven xs ks x (omega arith) (λ held. row (suc held.0, omega (arith, held.1), held.2)) (λ j lt. below (suc j) (omega arith)) rest
          ]
    ]

pub absent_leaf : (l : ℕ) (n : Node) (x : ℕ) → l ≡ 0 → (Contains (row n) x → ⊥) → Contains (flat l n) x → ⊥
absent_leaf l n x e none = rw (flat-leaf l n e) none

pub absent_inner :
    (l : ℕ) (n : Node) (x : ℕ)
    → l ≢ 0
    → IsFormed l n
    → (Contains (row n) x → ⊥)
    → ((k : ℕ) → k < length (children n) → Contains (flat (l - 1) (child n k)) x → ⊥)
    → Contains (flat l n) x
    → ⊥
absent_inner l n x ne f none below =
    let len = length-map (children n) (λ k. flat (l - 1) k) in
    rw (flat-inner l n ne) (absent_woven (row n) (lists (l - 1) (children n)) x (lists-one_more l n ne f) none
    (λ k lt h. below k (omega arith) (subst (λ zs. Contains zs x) (lists-at (l - 1) n k (omega arith)) h)))

-- the index to which a path goes in the node itself
pub place_at_level-row :
    (l : ℕ) (n : Node) (p : List ℕ)
    → IsFormed l n
    → slice_index p l < length (row n)
    → slice_index (flat l n) (place_at_level l l n p) ≡ slice_index (row n) (slice_index p l)
place_at_level-row l n p f lt =
    ap (λ i. slice_index (flat l n) i) (place_at_level-here l n p f (omega arith))
    ∙ (row-part l n f).at (slice_index p l) lt

pub holds_index-here :
    (l : ℕ) (n : Node) (p : List ℕ) (ix : ℕ)
    → IsFormed l n
    → slice_index p l < length (row n)
    → slice_index (row n) (slice_index p l) ≡ ix
    → LeadsToIndex l l n p ix
holds_index-here l n p ix f lt is = (holds-here l n p lt, place_at_level-row l n p f lt ∙ is)

-- and that in a child
pub holds_index-below :
    (m l i : ℕ) (n g : Node) (p : List ℕ) (ix : ℕ)
    → l ≢ 0
    → IsFormed l n
    → slice_index p l ≡ i
    → i < length (children n)
    → g ≡ get_or (children n) i g
    → LeadsToIndex m (l - 1) g p ix
    → LeadsToIndex m l n p ix
holds_index-below m l i n g p ix ne f at lt is_g held =
    let here : slice_index p l < length (children n) = rw at lt in
    let same : g ≡ child n (slice_index p l) = child_is n i g lt is_g ∙ ap (child n) (sym at) in
    let w : LeadsToIndex m (l - 1) (child n (slice_index p l)) p ix =
    subst (λ z. LeadsToIndex m (l - 1) z p ix) same held in
    let le = holds-level m (l - 1) (child n (slice_index p l)) p w.0 in
    let on = place_at_level-below m l n p ne (λ e. absurd (omega arith)) in (
      below-holds m l n p ne here w.0,
      ap (λ s. slice_index (flat l n) s) on
          ∙ child-read l n (slice_index p l) _ ne f here
          (place_at_level-within m (l - 1) (child n (slice_index p l)) p (child-formed l n (slice_index p l) ne f here) w.0)
          ∙ w.1,
    )
