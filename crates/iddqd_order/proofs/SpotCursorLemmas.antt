-- What a step of a spot cursor leaves, and where paths go after an index is replaced.
use Rattle.iddqd_order.proofs.Names.{◌≡◌, ◌≢◌, ◌∙◌, ℕ, zero, suc, ◌+◌, ◌-◌, ◌<◌, ◌≤◌, List, [], ◌++◌, length, get_or, set, slice_index, slice_set, refl, sym, ap, subst, arith, Option, Some, None, sub-one, length-append, length-set, get_or-set_same, get_or-set_other, inl, inr, cases_eq, cases_lt, length-map, map-set, All-set, Node, SpotCursor, row, children, child, child_room, weave, before, after, flat, IsFormed, ReachesIndex, place_at_level, StepsToNext, SamePlaces, IsSpotCursor, get_or_default, add-one, set-get_or, most_in_row, least_in_row, most_levels}
use Rattle.iddqd_order.proofs.NodeLemmas.{lists, AreChildren, formed-within, formed-leaf, leaf-formed, flat-leaf, formed-inner, inner-formed, flat-inner}
use Rattle.iddqd_order.proofs.RemovalLemmas.{GoesBelow, goes-below, ends-inner, holds-leaf, holds-at, holds-level, holds-below, place_at_level-leaf, place_at_level-at, place_at_level-below}
use Rattle.iddqd_order.proofs.DescentLemmas.{after-last, before-next, lists-one_more, lists-at, child-formed, child-read, child_is, holds-here, below-holds, place_at_level-row}
use Rattle.iddqd_order.proofs.WeaveLemmas.{apart, index_place}
use Rattle.iddqd_order.proofs.WeaveRemovalLemmas.{weave-set_own, weave-set_below}

-- the path of first places goes to the first index
pub record IsFirst (h : ℕ) (n : Node) (p : List ℕ) : Type 0 where
  pub holds : ReachesIndex 0 h n p
  pub place : place_at_level 0 h n p ≡ 0

pub first-place :
    (h : ℕ) (n : Node) (p : List ℕ)
    → IsFormed h n
    → 1 ≤ length (row n)
    → ((m : ℕ) → m ≤ h → slice_index p m ≡ 0)
    → IsFirst h n p
first-place zero n p f some zeros =
    let z = zeros 0 (omega arith) in
    record { holds = holds-here 0 n p (omega arith); place = place_at_level-leaf 0 0 n p refl ∙ z }
first-place (suc h) n p f some zeros =
    let ne : suc h ≢ 0 = λ e. absurd (omega arith) in
    let here : slice_index p (suc h) ≡ 0 = zeros (suc h) (omega arith) in
    let fs = formed-inner (suc h) n ne f in
    let one = fs.inner.one_more in
    let lt : 0 < length (children n) = omega arith in
    let five = (fs.below 0 n lt).0 in
    let below : IsFormed h (child n 0) = rw sub-one at (child-formed (suc h) n 0 ne f lt) in
    let ih = first-place h (child n 0) p below (omega arith) (λ m le. zeros m (omega arith)) in
    record {
      holds = below-holds 0 (suc h) n p ne (rw here lt) (rw (here, sub-one) ih.holds);
      place =
          let below : place_at_level 0 (suc h) n p ≡ 0 + place_at_level 0 h (child n 0) p =
          rw (here, sub-one) at (place_at_level-below 0 (suc h) n p ne (λ e. absurd (omega arith))) in
          let none = ih.place in
          omega arith;
    }

-- a step in a leaf
pub steps-leaf :
    (h l i : ℕ) (n : Node) (p q : List ℕ)
    → h ≡ 0
    → i ≡ slice_index p h
    → ReachesIndex l h n p
    → i + 1 < length (row n)
    → slice_index q 0 ≡ i + 1
    → StepsToNext h n l p (Some 0) q
steps-leaf (suc h) l i n p q e ei w lt next = absurd (omega arith)
steps-leaf zero l i n p q e ei w lt next =
    (holds-here 0 n q (omega arith), place_at_level-leaf 0 0 n q refl ∙ next ∙ ap (λ z. z + 1) ei ∙ ap (λ z. z + 1) (sym (place_at_level-leaf l 0 n p refl)))

pub ends-leaf :
    (h l i : ℕ) (n : Node) (p q : List ℕ)
    → h ≡ 0
    → i ≡ slice_index p h
    → ReachesIndex l h n p
    → length (row n) ≤ i + 1
    → StepsToNext h n l p None q
ends-leaf (suc h) l i n p q e ei w le = absurd (omega arith)
ends-leaf zero l i n p q e ei w le =
    let lt = holds-leaf l 0 n p refl w in
    rw (flat-leaf zero n refl, place_at_level-leaf l 0 n p refl) (omega arith)

-- from an index of an inner node to the first one below the next child
pub steps-here :
    (h l i : ℕ) (n : Node) (p q : List ℕ)
    → h ≢ 0
    → h ≡ l
    → i ≡ slice_index p h
    → IsFormed h n
    → ReachesIndex l h n p
    → slice_index q h ≡ i + 1
    → ((m : ℕ) → m < h → slice_index q m ≡ 0)
    → StepsToNext h n l p (Some 0) q
steps-here h l i n p q ne e ei f w next zeros =
    let s = ends-inner h l i n p ne e ei f w in
    let at = s.within in
    let one = (formed-inner h n ne f).inner.one_more in
    let lt : i + 1 < length (children n) = omega arith in
    let five = ((formed-inner h n ne f).below (i + 1) n lt).0 in
    let first =
    first-place (h - 1) (child n (i + 1)) q (child-formed h n (i + 1) ne f lt) (omega arith)
    (λ m le. zeros m (omega arith)) in
    let xs : List ℕ = row n in let ks : List (List ℕ) = lists (h - 1) (children n) in
    let is : place_at_level 0 h n q ≡ length (before (i + 1) xs ks) + place_at_level 0 (h - 1) (child n (i + 1)) q =
    place_at_level-below 0 h n q ne ne
    ∙ ap (λ z. length (before z xs ks) + place_at_level 0 (h - 1) (child n z) q) next in
    let len : length (before (i + 1) xs ks) ≡ index_place i xs ks + 1 =
    before-next i xs ks at (lists-one_more h n ne f) in
    let was = s.place in let none = first.place in
    (below-holds 0 h n q ne (rw next lt) (rw next first.holds), omega arith)

-- a step below the i-th child
steps-below :
    (h l i m : ℕ) (n : Node) (p q : List ℕ)
    → GoesBelow h l i n p
    → slice_index q h ≡ i
    → StepsToNext (h - 1) (child n i) l p (Some m) q
    → StepsToNext h n l p (Some m) q
steps-below h l i m n p q b here s =
    let le = holds-level m (h - 1) (child n i) q s.0 in
    let was = b.place in
    let is : place_at_level m h n q ≡ length (before i (row n) (lists (h - 1) (children n))) + place_at_level m (h - 1) (child n i) q =
    place_at_level-below m h n q b.inner (λ z. absurd (omega arith))
    ∙ ap (λ z. length (before z (row n) (lists (h - 1) (children n))) + place_at_level m (h - 1) (child n z) q) here in
    let next = s.1 in
    (below-holds m h n q b.inner (rw here b.here) (rw here s.0), omega arith)

-- from the last one below the i-th child to the i-th index
steps-out :
    (h l i : ℕ) (n : Node) (p q : List ℕ)
    → GoesBelow h l i n p
    → i ≡ slice_index p h
    → IsFormed h n
    → q ≡ p
    → i < length (row n)
    → StepsToNext (h - 1) (child n i) l p None q
    → StepsToNext h n l p (Some h) q
steps-out h l i n p q b ei f same lt s =
    let here : i ≡ slice_index q h = ei ∙ ap (λ z. slice_index z h) (sym same) in
    let holds = holds-here h n q (rw (sym here) lt) in
    let is = (ends-inner h h i n q b.inner refl here f holds).place in
    let list = ap length (lists-at (h - 1) n i b.here) in
    let was = b.place in
    (holds, omega arith)

-- or to the end of the node
ends-below :
    (h l i : ℕ) (n : Node) (p q : List ℕ)
    → GoesBelow h l i n p
    → IsFormed h n
    → length (row n) ≤ i
    → StepsToNext (h - 1) (child n i) l p None q
    → StepsToNext h n l p None q
ends-below h l i n p q b f le s =
    let xs : List ℕ = row n in let ks : List (List ℕ) = lists (h - 1) (children n) in
    let one = lists-one_more h n b.inner f in
    let whole = ap length (flat-inner h n b.inner ∙ apart i xs ks [] (omega (arith, b.here, length-map (children n) (λ k. flat (h - 1) k))) one) in
    let list = ap length (lists-at (h - 1) n i b.here) in let last = ap length (after-last i xs ks le one) in
    omega (arith, b.place, whole, length-append (before i xs ks) (get_or ks i [] ++ after i xs ks), length-append (get_or ks i []) (after i xs ks))

-- the index to which a path goes below the i-th child
pub read-below :
    (h l i ix : ℕ) (n : Node) (p : List ℕ)
    → GoesBelow h l i n p
    → IsFormed h n
    → ix ≡ slice_index (flat (h - 1) (child n i)) (place_at_level l (h - 1) (child n i) p)
    → ix ≡ slice_index (flat h n) (place_at_level l h n p)
read-below h l i ix n p b f is = is ∙ sym (ap (slice_index (flat h n)) b.place ∙ child-read h n i (place_at_level l (h - 1) (child n i) p) b.inner f b.here b.within)

-- where a path goes in a node
pub holds-row :
    (h l i : ℕ) (n : Node) (p : List ℕ)
    → h ≡ l
    → i ≡ slice_index p h
    → ReachesIndex l h n p
    → i < length (row n)
holds-row zero l i n p e ei w = rw ei (holds-leaf l 0 n p refl w)
holds-row (suc h) l i n p e ei w = rw ei (holds-at l (suc h) n p (λ z. absurd (omega arith)) e w)

-- a path ends at the node itself, at its i-th index
pub record EndsHere (h l i : ℕ) (n : Node) (p : List ℕ) : Type 0 where
  pub level : h ≡ l
  pub within : i < length (row n)
  pub low : i < most_in_row
  pub spot_is : slice_index (flat h n) (place_at_level l h n p) ≡ slice_index (row n) i

pub ends-here :
    {h l i : ℕ} {n : Node} {p : List ℕ}
    → h ≤ l
    → i ≡ slice_index p h
    → IsFormed h n
    → ReachesIndex l h n p
    → EndsHere h l i n p
ends-here {h = h} {l = l} {i = i} {n = n} {p = p} le ei f w =
    let e : h ≡ l = omega (arith, holds-level l h n p w) in
    let lt = holds-row h l i n p e ei w in
    record {
      level = e;
      within = lt;
      low = omega (arith, lt, formed-within h n f);
      spot_is =
          ap (λ z. slice_index (flat h n) (place_at_level z h n p)) (sym e)
          ∙ place_at_level-row h n p f (rw (sym ei) lt) ∙ ap (slice_index (row n)) (sym ei);
    }

-- A walk from the node n down has come to the node k at level j. A step below k is a step below n. After the last index
-- below k comes the one at the level `above`.
pub record StepsOn (h j l : ℕ) (n k : Node) (p : List ℕ) (above : Option ℕ) : Type 0 where
  pub high : l ≤ j
  pub low : j ≤ h
  pub formed : IsFormed j k
  pub holds : ReachesIndex l j k p
  pub index : (ix : ℕ) → ix ≡ slice_index (flat j k) (place_at_level l j k p)
      → ix ≡ slice_index (flat h n) (place_at_level l h n p)
  pub on : (m : ℕ) (q : List ℕ) → ((i : ℕ) → j < i → slice_index q i ≡ slice_index p i)
      → StepsToNext j k l p (Some m) q → StepsToNext h n l p (Some m) q
  pub last : StepsToNext j k l p None p → StepsToNext h n l p above p

-- the level of the index behind the i-th child of a node at level j, or else `above`
pub record IsLevelBehind (k : Node) (i j : ℕ) (above next : Option ℕ) : Type 0 where
  pub here : i < length (row k) → next ≡ Some j
  pub past : length (row k) ≤ i → next ≡ above

pub steps-on_below :
    (h j l i : ℕ) (n k c : Node) (p : List ℕ) (above next : Option ℕ)
    → l < j
    → i ≡ slice_index p j
    → c ≡ get_or (children k) i c
    → StepsOn h j l n k p above
    → IsLevelBehind k i j above next
    → StepsOn h (j - 1) l n c p next
steps-on_below h j l i n k c p above next lt ei is steps level =
    let b = goes-below j l i k p lt ei steps.formed steps.holds in
    let same : c ≡ child k i = child_is k i c b.here is in
    record {
      high = omega arith;
      low = omega (arith, steps.low);
      formed = rw same b.formed;
      holds = rw same b.holds;
      index = λ ix at. steps.index ix (read-below j l i ix k p b steps.formed
          (subst (λ z. ix ≡ slice_index (flat (j - 1) z) (place_at_level l (j - 1) z p)) same at));
      on = λ m q kept s. steps.on m q (λ u up. kept u (omega arith))
          (steps-below j l i m k p q b (kept j (omega arith) ∙ sym ei)
          (subst (λ z. StepsToNext (j - 1) z l p (Some m) q) same s));
      last = λ s. elim (cases_lt i (length (row k))) [
        | inl within ↦ subst (λ r. StepsToNext h n l p r p) (sym (level.here within))
            (steps.on j p (λ u up. refl) (steps-out j l i k p p b ei steps.formed refl within
            (subst (λ z. StepsToNext (j - 1) z l p None p) same s)))
        | inr over ↦ subst (λ r. StepsToNext h n l p r p) (sym (level.past over))
            (steps.last (ends-below j l i k p p b steps.formed over
            (subst (λ z. StepsToNext (j - 1) z l p None p) same s)))
      ];
    }

-- what stands before the i-th list is as long, if the lists are as long
before-as_long :
    (i : ℕ) (xs ys : List ℕ) (ks ls : List (List ℕ))
    → i ≤ length xs
    → length ys ≡ length xs
    → length ks ≡ length xs + 1
    → length ls ≡ length ys + 1
    → ((j : ℕ) → j < i → length (get_or ks j []) ≡ length (get_or ls j []))
    → length (before i xs ks) ≡ length (before i ys ls)
before-as_long zero xs ys ks ls le e ek el each = refl
before-as_long (suc i) xs ys ks ls le e ek el each =
    let ih = before-as_long i xs ys ks ls (omega arith) e ek el (λ j lt. each j (omega arith)) in
    omega (arith, simp add-one at (before-next i xs ks (omega arith) ek), simp add-one at (before-next i ys ls (omega arith) el), each i (omega arith))

SamePlaces-itself : (h : ℕ) (n : Node) → SamePlaces h n n
SamePlaces-itself h n = record { long = refl; at = λ l p w. (w, refl) }

same-places-inner :
    (h : ℕ) (n m : Node)
    → h ≢ 0
    → IsFormed h n
    → IsFormed h m
    → length (row m) ≡ length (row n)
    → length (flat h m) ≡ length (flat h n)
    → ((j : ℕ) → j < length (children n) → SamePlaces (h - 1) (child n j) (child m j))
    → SamePlaces h n m
same-places-inner h n m ne fn fm rows long each = record { long = long; at = at }
  where
    at :
        (l : ℕ) (p : List ℕ)
        → ReachesIndex l h n p
        → ReachesIndex l h m p × (place_at_level l h m p ≡ place_at_level l h n p)
    at l p w =
        let i : ℕ = slice_index p h in
        let one = (formed-inner h n ne fn).inner.one_more in let other = (formed-inner h m ne fm).inner.one_more in
        let befores : i ≤ length (row n) → length (before i (row m) (lists (h - 1) (children m))) ≡ length (before i (row n) (lists (h - 1) (children n))) =
        λ le. before-as_long i (row m) (row n) (lists (h - 1) (children m)) (lists (h - 1) (children n)) (omega arith) (sym rows) (lists-one_more h m ne fm) (lists-one_more h n ne fn)
        (λ j lt. ap length (lists-at (h - 1) m j (omega arith)) ∙ (each j (omega arith)).long ∙ sym (ap length (lists-at (h - 1) n j (omega arith)))) in
        elim (cases_eq h l) [
          | inl e ↦
              (let lt : i < length (row n) = holds-at l h n p ne e w in
              (subst (λ z. ReachesIndex z h m p) e (holds-here h m p (omega arith)), omega (arith, befores (omega arith), (each i (omega arith)).long, place_at_level-at l h m p ne e, place_at_level-at l h n p ne e)))
          | inr below ↦
              (let down = holds-below l h n p ne below w in
              let here = down.here in
              let on = (each i here).at l p down.on in
              (below-holds l h m p ne (omega arith) on.0, omega (arith, befores (omega arith), on.1, place_at_level-below l h m p ne below, place_at_level-below l h n p ne below)))
        ]

-- what the replacement of an index leaves of a node
pub record IsPut (h l : ℕ) (n m : Node) (p : List ℕ) (x : ℕ) : Type 0 where
  pub items : flat h m ≡ slice_set (flat h n) (place_at_level l h n p) x
  pub formed : IsFormed h m
  pub same_length : length (row m) ≡ length (row n)
  pub same_places : SamePlaces h n m

-- k replaces the i-th child, and paths through it go to the same places
put-inner :
    (h l i x : ℕ) (n k m : Node) (p : List ℕ)
    → h ≢ 0
    → IsFormed h n
    → i < length (children n)
    → length (row m) ≡ length (row n)
    → children m ≡ set (children n) i k
    → child_room n ≤ child_room m
    → (least_in_row ≤ length (row k)) × IsFormed (h - 1) k
    → SamePlaces (h - 1) (child n i) k
    → weave (row m) (lists (h - 1) (set (children n) i k)) ≡ set (weave (row n) (lists (h - 1) (children n)))
    (place_at_level l h n p) x
    → IsPut h l n m p x
put-inner h l i x n k m p ne f here rows ek more child_is same woven =
    let fs = formed-inner h n ne f in
    let one = fs.inner.one_more in let within = fs.inner.within in let has_room = fs.inner.has_room in
    let count = ap length ek ∙ length-set (children n) i k in
    let formed : IsFormed h m =
    inner-formed h m ne (record { within = omega arith; one_more = omega arith; has_room = omega arith })
    (subst (AreChildren (h - 1)) (sym ek) (All-set (λ z. (least_in_row ≤ length (row z)) × IsFormed (h - 1) z) (children n) i k child_is fs.below)) in
    let items : flat h m ≡ set (flat h n) (place_at_level l h n p) x =
    flat-inner h m ne ∙ ap (λ z. weave (row m) (lists (h - 1) z)) ek ∙ woven
    ∙ ap (λ z. set z (place_at_level l h n p) x) (sym (flat-inner h n ne)) in
    record {
      items = items;
      formed = formed;
      same_length = rows;
      same_places =
          same-places-inner h n m ne f formed rows
          (ap length items ∙ length-set (flat h n) (place_at_level l h n p) x) (λ j lt. elim (cases_eq j i) [
            | inl e ↦ subst (λ z. SamePlaces (h - 1) (child n z) (child m z)) (sym e) (subst (SamePlaces (h - 1) (child n i)) (sym (ap (λ z. get_or z i m) ek ∙ get_or-set_same (children n) i k m here)) same)
            | inr away ↦ subst (SamePlaces (h - 1) (child n j)) (sym (ap (λ z. get_or z j m) ek ∙ get_or-set_other (children n) i j k m away ∙ get_or_default (children n) j m n lt)) (SamePlaces-itself (h - 1) (child n j))
          ]);
    }

pub put-here :
    (h l i x : ℕ) (n m : Node) (p : List ℕ)
    → h ≡ l
    → i ≡ slice_index p h
    → IsFormed h n
    → ReachesIndex l h n p
    → row m ≡ set (row n) i x
    → children m ≡ children n
    → child_room n ≤ child_room m
    → IsPut h l n m p x
put-here zero l i x n m p e ei f w er ek more =
    let leaf = formed-leaf 0 n refl f in let within = leaf.within in
    let rows : length (row m) ≡ length (row n) = ap length er ∙ length-set (row n) i x in
    let lt = holds-leaf l 0 n p refl w in
    record {
      items =
          flat-leaf 0 m refl ∙ er
          ∙ sym (λ j. set (flat-leaf 0 n refl j) ((place_at_level-leaf l 0 n p refl ∙ sym ei) j) x);
      formed = leaf-formed 0 m refl (record { within = omega arith; childless = ek ∙ leaf.childless });
      same_length = rows;
      same_places = record {
        long = ap length (flat-leaf 0 m refl) ∙ rows ∙ sym (ap length (flat-leaf 0 n refl));
        at = λ k q v. (
            let low = holds-leaf k 0 n q refl v in let none = holds-level k 0 n q v in let e : 0 ≡ k = omega arith in
            (subst (λ z. ReachesIndex z 0 m q) e (holds-here 0 m q (omega arith)), place_at_level-leaf k 0 m q refl ∙ sym (place_at_level-leaf k 0 n q refl)));
      };
    }
put-here (suc h) l i x n m p e ei f w er ek more =
    let ne : suc h ≢ 0 = λ z. absurd (omega arith) in
    let s = ends-inner (suc h) l i n p ne e ei f w in
    let ks : List (List ℕ) = lists (suc h - 1) (children n) in
    let same : set (children n) i (child n i) ≡ children n = set-get_or (children n) i n in
    put-inner (suc h) l i x n (child n i) m p ne f s.here (ap length er ∙ length-set (row n) i x) (ek ∙ sym same) more
    ((formed-inner (suc h) n ne f).below i n s.here) (SamePlaces-itself (suc h - 1) (child n i))
    ((λ j. weave (er j) (lists (suc h - 1) (same j))) ∙ weave-set_own i (row n) ks x s.within (lists-one_more (suc h) n ne f) ∙ ap (λ z. set (weave (row n) ks) z x) (sym s.place))

-- the same if the path goes on below the i-th child g, which k replaces
pub put-below :
    (h l i x : ℕ) (n g k m : Node) (p : List ℕ)
    → l < h
    → i ≡ slice_index p h
    → IsFormed h n
    → ReachesIndex l h n p
    → g ≡ get_or (children n) i g
    → IsPut (h - 1) l g k p x
    → row m ≡ row n
    → children m ≡ set (children n) i k
    → child_room n ≤ child_room m
    → IsPut h l n m p x
put-below h l i x n g k m p low ei f w is_g put er ek more =
    let b = goes-below h l i n p low ei f w in
    let five = b.five in
    let was : IsPut (h - 1) l (child n i) k p x =
    subst (λ z. IsPut (h - 1) l z k p x) (child_is n i g b.here is_g) put in
    let row_len = was.same_length in
    let ks : List (List ℕ) = lists (h - 1) (children n) in
    let list = lists-at (h - 1) n i b.here in
    let q : ℕ = place_at_level l (h - 1) (child n i) p in
    put-inner h l i x n k m p b.inner f b.here (ap length er) ek more (omega arith, was.formed) was.same_places
    ((λ j. weave (er j) (map-set (λ k. flat (h - 1) k) (children n) i k j))
    ∙ weave-set_below i (row n) ks (flat (h - 1) k) q x
    (omega (arith, b.here, length-map (children n) (λ k. flat (h - 1) k))) (lists-one_more h n b.inner f)
    (rw list b.within) (rw list was.items)
    ∙ ap (λ z. set (weave (row n) ks) z x) (sym b.place))

-- the cursor at the first index
pub IsSpotCursor-first :
    (h : ℕ) (n : Node) (w : SpotCursor)
    → IsFormed h n
    → 1 ≤ length (row n)
    → h < most_levels
    → length w.spot.path ≡ most_levels
    → ((l : ℕ) → slice_index w.spot.path l ≡ 0)
    → w.spot.level ≡ 0
    → w.place ≡ 0
    → IsSpotCursor h n w
IsSpotCursor-first h n w f some low path zeros level place =
    let first = first-place h n w.spot.path f some (λ m le. zeros m) in
    record {
      path = path;
      within = omega arith;
      holds = λ more. subst (λ l. ReachesIndex l h n w.spot.path) (sym level) first.holds;
      leads = λ more. ap (λ l. place_at_level l h n w.spot.path) level ∙ first.place ∙ sym place;
    }

-- a cursor stays at its place if the tree changes only indexes
pub IsSpotCursor-same :
    (h : ℕ) (n m : Node) (w : SpotCursor)
    → SamePlaces h n m
    → IsSpotCursor h n w
    → IsSpotCursor h m w
IsSpotCursor-same h n m w same is =
    let within = is.within in let long = same.long in
    record {
      path = is.path;
      within = omega arith;
      holds = λ more. (same.at w.spot.level w.spot.path (is.holds (omega arith))).0;
      leads = λ more. (same.at w.spot.level w.spot.path (is.holds (omega arith))).1 ∙ is.leads (omega arith);
    }
