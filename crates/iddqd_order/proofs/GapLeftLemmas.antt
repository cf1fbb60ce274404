-- Where a path goes after the index to which it went was removed: to the gap where the index stood.
use Rattle.iddqd_order.proofs.Names.{◌≡◌, ◌≢◌, ◌∙◌, ℕ, zero, suc, ◌+◌, ◌-◌, ◌<◌, ◌≤◌, List, [], ◌∷◌, ◌++◌, length, get_or, set, map-set, remove, slice_index, refl, sym, ap, subst, arith, length-append, length-map, length-remove, length-set, get_or-set_same, get_or_default, All, cases_eq, inl, inr, get_or-set_other, slice_set, most_levels, gaps_before, IsMended, MayLackOne, Option, None, Some, ReachesGap, ReachesIndex, Node, row, children, child, before, flat, place, place_at_level, IsFormed, IsEmptied, LeadsBelow, place_below, ReachesGapIn, place_in}
use Rattle.iddqd_order.proofs.DescentLemmas.{before-next}
use Rattle.iddqd_order.proofs.FrontLemmas.{at_front}
use Rattle.iddqd_order.proofs.GapNumberLemmas.{LeadsAlike, all_gaps, gaps_before-more, gaps_before-next, goes-leaf_gap, led-alike}
use Rattle.iddqd_order.proofs.NodeLemmas.{lists, lists-one_more, lists-at, formed-inner, path-above, path-here, holds-leaf, holds-level, below-holds, goes-inner, goes-below, place-inner, place-leaf, place_at_level-leaf}
use Rattle.iddqd_order.proofs.RemovalLemmas.{ends-inner}

-- a path goes to a gap of this node, with so many indexes before it
pub record GoesTo (h : ℕ) (n : Node) (p : List ℕ) (at : ℕ) : Type 0 where
  pub goes : ReachesGap h n p
  pub place : place h n p ≡ at

-- or of a node that has these indexes and children
pub record LeadsTo (h : ℕ) (xs : List ℕ) (ks : List Node) (p : List ℕ) (at : ℕ) : Type 0 where
  pub leads : LeadsBelow h ks p
  pub place : (d : Node) → place_below h xs ks d p ≡ at

pub goes-there :
    (h : ℕ) (n : Node) (xs : List ℕ) (ks : List Node) (p : List ℕ) (at : ℕ)
    → h ≢ 0
    → row n ≡ xs
    → children n ≡ ks
    → LeadsTo h xs ks p at
    → GoesTo h n p at
goes-there h n xs ks p at ne er ek t =
    let whole : place_below h (row n) (children n) n p ≡ place_below h xs ks n p =
    (λ j. place_below h (er j) (ek j) n p) in
    record {
      goes = below-holds 0 h n p ne (rw ek t.leads.here) (subst (λ z. ReachesGap (h - 1) (get_or z (slice_index p h) n) p) (sym ek) (t.leads.on n));
      place = place-inner h n p ne ∙ whole ∙ t.place n;
    }

-- in a leaf the path stays
pub left-in_leaf :
    (l h i : ℕ) (old new : Node) (p : List ℕ)
    → h ≡ 0
    → i ≡ slice_index p h
    → ReachesIndex l h old p
    → row new ≡ remove (row old) i
    → GoesTo h new p (place_at_level l h old p)
left-in_leaf l h i old new p e ei w eri =
    let lt = holds-leaf l h old p e w in
    let at : slice_index p h ≡ slice_index p 0 = ap (λ z. slice_index p z) e in
    let long : length (row new) + 1 ≡ length (row old) = ap (λ z. length z + 1) eri ∙ length-remove (row old) i (omega arith) in
    record {
      goes = goes-leaf_gap h new p e (omega arith);
      place = place-leaf h new p e ∙ sym (place_at_level-leaf l h old p e);
    }

-- what is before a list doesn't depend on that list, nor on the index behind it
before-set :
    (i : ℕ) (xs : List ℕ) (ks : List (List ℕ)) (x : ℕ) (k : List ℕ)
    → before i (set xs i x) (set ks i k) ≡ before i xs ks
before-set zero xs ks x k = refl
before-set (suc i) [] ks x k = refl
before-set (suc i) (y ∷ xs) [] x k = refl
before-set (suc i) (y ∷ xs) (l ∷ ks) x k = ap (λ z. l ++ y ∷ z) (before-set i xs ks x k)

before-set_list : (i : ℕ) (xs : List ℕ) (ks : List (List ℕ)) (k : List ℕ) → before i xs (set ks i k) ≡ before i xs ks
before-set_list zero xs ks k = refl
before-set_list (suc i) [] ks k = refl
before-set_list (suc i) (y ∷ xs) [] k = refl
before-set_list (suc i) (y ∷ xs) (l ∷ ks) k = ap (λ z. l ++ y ∷ z) (before-set_list i xs ks k)

-- a path goes to the first gap
record AtFirst (h : ℕ) (n : Node) (p : List ℕ) : Type 0 where
  pub goes : ReachesGap h n p
  pub none : place h n p ≡ 0

-- the index before which it stood was moved up from the i-th child k: the path goes on below the next child
pub left-here :
    (l h i : ℕ) (old k : Node) (p q : List ℕ) (last : ℕ)
    → h ≢ 0
    → h ≡ l
    → i ≡ slice_index p h
    → IsFormed h old
    → ReachesIndex l h old p
    → flat (h - 1) (child old i) ≡ flat (h - 1) k ++ last ∷ []
    → slice_index q h ≡ i + 1
    → ((m : ℕ) → m < h → slice_index q m ≡ 0)
    → LeadsTo h (set (row old) i last) (set (children old) i k) q (place_at_level l h old p)
left-here l h i old k p q last ne e ei f w items next zeros =
    let s = ends-inner h l i old p ne e ei f w in
    let at = s.within in
    let here = s.here in
    let inner = formed-inner h old ne f in
    let one = inner.inner.one_more in
    let behind : i + 1 < length (children old) = omega arith in
    let ls : List (List ℕ) = lists (h - 1) (children old) in
    let f_k : List ℕ = flat (h - 1) k in
    let xs : List ℕ = set (row old) i last in
    let ks : List Node = set (children old) i k in
    let moved : lists (h - 1) ks ≡ set ls i f_k = map-set (λ k. flat (h - 1) k) (children old) i k in
    let long : length (set ls i f_k) ≡ length xs + 1 = omega (arith, lists-one_more h old ne f, length-set ls i f_k, length-set (row old) i last) in
    let next_is = before-next i xs (set ls i f_k) (omega (arith, length-set (row old) i last)) long in
    let own : get_or (set ls i f_k) i [] ≡ f_k = get_or-set_same ls i f_k [] (omega (arith, length-map (children old) (λ k. flat (h - 1) k))) in
    let other : (d : Node) → get_or ks (i + 1) d ≡ get_or (children old) (i + 1) d = λ d. get_or-set_other (children old) i (i + 1) k d (λ same. absurd (omega arith)) in
    let front : (d : Node) → AtFirst (h - 1) (get_or ks (slice_index q h) d) q = λ d.
    (let formed : IsFormed (h - 1) (get_or ks (slice_index q h) d) = rw (next, other d) (inner.below (i + 1) d behind).1 in
    let edge = at_front (h - 1) (get_or ks (slice_index q h) d) q formed (λ m le. zeros m (omega arith)) in
    record { goes = edge.goes; none = edge.place_is }) in
    record {
      leads = record {
        here = rw next (omega (arith, length-set (children old) i k));
        on = λ d. (front d).goes;
      };
      place = λ d.
          let none = (front d).none in
          let start : length (before (slice_index q h) xs (lists (h - 1) ks)) ≡ length (before (i + 1) xs (set ls i f_k)) =
          (λ j. length (before (next j) xs (moved j))) in
          omega (arith, none, start, next_is, ap length own, ap length (before-set i (row old) ls last f_k), s.place, ap length items, length-append f_k (last ∷ []), ap length (lists-at (h - 1) old i here));
    }

-- it stood below the i-th child, of which k is left
pub left-below :
    (l h i : ℕ) (old g k : Node) (p q : List ℕ)
    → h ≢ 0
    → h ≢ l
    → i ≡ slice_index p h
    → IsFormed h old
    → ReachesIndex l h old p
    → g ≡ get_or (children old) i g
    → slice_index q h ≡ i
    → GoesTo (h - 1) k q (place_at_level l (h - 1) g p)
    → LeadsTo h (row old) (set (children old) i k) q (place_at_level l h old p)
left-below l h i old g k p q ne e ei f w is_g same t =
    let le = holds-level l h old p w in
    let b = goes-below h l i old p (omega arith) ei f w in
    let here = b.here in
    let ls : List (List ℕ) = lists (h - 1) (children old) in
    let ks : List Node = set (children old) i k in
    let g_is : g ≡ child old i = is_g ∙ get_or_default (children old) i g old here in
    let own : (d : Node) → get_or ks (slice_index q h) d ≡ k = λ d. ap (λ z. get_or ks z d) same ∙ get_or-set_same (children old) i k d here in
    record {
      leads = record {
        here = rw same (omega (arith, length-set (children old) i k));
        on = λ d. rw (own d) t.goes;
      };
      place = λ d.
          let start : length (before (slice_index q h) (row old) (lists (h - 1) ks)) ≡ length (before i (row old) ls) =
          (λ j. length (before (same j) (row old) (map-set (λ k. flat (h - 1) k) (children old) i k j)))
          ∙ ap length (before-set_list i (row old) ls (flat (h - 1) k)) in
          omega (arith, start, ap (λ z. place (h - 1) z q) (own d), t.place, ap (λ z. place_at_level l (h - 1) z p) g_is, b.place);
    }

-- The node is mended. All its children are well-formed, before and after.
pub lacking-formed : (h i : ℕ) (xs : List ℕ) (ks : List Node) → MayLackOne h i xs ks → All (λ k. IsFormed h k) ks
lacking-formed h i xs ks f = λ j d lt. elim (cases_eq j i) [
  | inl e ↦ rw e (f.at d).1
  | inr ne ↦ (f.others j d lt ne).1
]

mended-formed :
    (h : ℕ) (xs ys : List ℕ) (ks ls : List Node)
    → IsMended h xs ks ys ls
    → All (λ k. IsFormed h k) ls
mended-formed h xs ys ks ls m = λ j d lt. (m.below j d lt).1

-- the place at a level of a path is one of the row there
pub goes-low : (h : ℕ) (n : Node) (p : List ℕ) → IsFormed h n → ReachesGap h n p → slice_index p h ≤ length (row n)
goes-low zero n p f g = holds-leaf 0 0 n p refl g
goes-low (suc h) n p f g =
    let ne : suc h ≢ 0 = λ e. absurd (omega arith) in
    let lt = (goes-inner (suc h) n p ne g).here in
    let one = (formed-inner (suc h) n ne f).inner.one_more in
    omega arith

-- the path's gap has a number, before and after
pub numbered :
    (h i : ℕ) (xs ys : List ℕ) (ks ls : List Node) (p : List ℕ)
    → MayLackOne (h - 1) i xs ks
    → IsMended (h - 1) xs ks ys ls
    → LeadsBelow h ks p
    → gaps_before (slice_index p h) ks + slice_index p (h - 1) < gaps_before (length ls) ls
numbered h i xs ys ks ls p f m leads =
    let j : ℕ = slice_index p h in
    let lt = leads.here in
    let one = f.one_more in
    let new_one = m.one_more in
    elim ks as (λ z. ks ≡ z → gaps_before j ks + slice_index p (h - 1) < gaps_before (length ls) ls) [
      | [] ↦ λ e. absurd (omega (arith, lt, ap length e))
      | k ∷ rest ↦ λ e.
          let le = goes-low (h - 1) (get_or ks j k) p (lacking-formed (h - 1) i xs ks f j k lt) (leads.on k) in
          omega (arith, le, gaps_before-next j ks k lt, gaps_before-more (suc j) ks, all_gaps xs ks one, all_gaps ys ls new_one, ap length m.rows)
    ] refl

-- and goes on to the gap with this number
pub mended-leads :
    (h i : ℕ) (xs ys : List ℕ) (ks ls : List Node) (p r q : List ℕ) (number at place : ℕ)
    → h ≢ 0
    → h < most_levels
    → length p ≡ most_levels
    → length r ≡ most_levels
    → MayLackOne (h - 1) i xs ks
    → IsMended (h - 1) xs ks ys ls
    → LeadsBelow h ks p
    → number ≡ gaps_before (slice_index p h) ks + slice_index p (h - 1)
    → at < length ls
    → ((d : Node) → place ≤ length (row (get_or ls at d)))
    → gaps_before at ls + place ≡ number
    → r ≡ slice_set p h at
    → q ≡ slice_set r (h - 1) place
    → LeadsAlike h xs ys ks ls p q
mended-leads h i xs ys ks ls p r q number at place ne levels long r_long f m leads is here within counted er eq =
    let at_h : slice_index q h ≡ at = path-above r q (h - 1) place h eq (omega (arith, ne)) ∙ path-here p r h at long levels er in
    let at_low : slice_index q (h - 1) ≡ place = path-here r q (h - 1) place r_long (omega arith) eq in
    let lower : (m : ℕ) → m < h - 1 → slice_index q m ≡ slice_index p m = λ m lt.
    ap (λ z. slice_index z m) eq ∙ get_or-set_other r (h - 1) m place 0 (λ same. absurd (omega arith))
    ∙ ap (λ z. slice_index z m) er ∙ get_or-set_other p h m at 0 (λ same. absurd (omega arith)) in
    led-alike h xs ys ks ls p q f.one_more m.one_more (lacking-formed (h - 1) i xs ks f) (mended-formed (h - 1) xs ys ks ls m) m.rows m.grandchildren leads (rw at_h here)
    (λ d. rw (at_h, at_low) (within d)) (rw (at_h, at_low) (counted ∙ is)) lower

-- the root was dropped, and its only child is the root now
pub goes-lowered :
    (h : ℕ) (n k : Node) (p : List ℕ)
    → h ≢ 0
    → IsFormed h n
    → children n ≡ k ∷ []
    → ReachesGap h n p
    → GoesTo (h - 1) k p (place h n p)
goes-lowered h n k p ne f alone g =
    let down = goes-inner h n p ne g in
    let lt = down.here in
    let first : slice_index p h ≡ 0 = omega (arith, ap length alone) in
    let is : child n (slice_index p h) ≡ k = ap (λ z. child n z) first ∙ ap (λ z. get_or z 0 n) alone in
    let start : length (before (slice_index p h) (row n) (lists (h - 1) (children n))) ≡ 0 = ap (λ z. length (before z (row n) (lists (h - 1) (children n)))) first in
    record {
      goes = subst (λ z. ReachesGap (h - 1) z p) is down.on;
      place = omega (arith, place-inner h n p ne, ap (λ z. place (h - 1) z p) is, start);
    }

pub lowered-goes :
    (h : ℕ) (r : Option Node) (n : Node) (left : List Node) (k : Node) (p : List ℕ)
    → Some n ≡ r
    → IsEmptied r h
    → children n ≡ left ++ k ∷ []
    → left ≡ []
    → ReachesGapIn r h p
    → GoesTo (h - 1) k p (place_in r h p)
unfolding IsFormed
lowered-goes h None n left k p s e is alone g = absurd (cc)
lowered-goes zero (Some m) n left k p s e is alone g =
    let same : n ≡ m = cc in
    absurd (omega (arith, ap length e.0.childless, ap (λ z. length (children z)) same, ap length is, length-append left (k ∷ [])))
lowered-goes (suc h) (Some m) n left k p s e is alone g =
    let same : n ≡ m = cc in
    let one : children m ≡ k ∷ [] = ap children (sym same) ∙ is ∙ ap (λ z. z ++ k ∷ []) alone in
    goes-lowered (suc h) m k p (λ e. absurd (omega arith)) e.0 one g

-- a root without indexes and children has one gap
pub bare-place :
    (h : ℕ) (r : Option Node) (n : Node) (p : List ℕ)
    → Some n ≡ r
    → IsEmptied r h
    → length (children n) ≡ 0
    → ReachesGapIn r h p
    → place_in r h p ≡ 0
unfolding IsFormed
bare-place h None n p s e none g = absurd (cc)
bare-place zero (Some m) n p s e none g =
    let le = holds-leaf 0 0 m p refl g in
    omega (arith, le, place-leaf 0 m p refl, ap length e.1)
bare-place (suc h) (Some m) n p s e none g =
    let same : n ≡ m = cc in
    absurd (omega (arith, ap (λ z. length (children z)) same, e.0.0.one_more))
