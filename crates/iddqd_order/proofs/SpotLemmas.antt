-- The index behind a gap, one level at a time.
use Rattle.iddqd_order.proofs.Names.{AtIndex, IsTree, in_order, place_at_level_in, ReachesIndexIn, IfSome, IsNone, Option, None, Some, slice_get-get_or, get_or-remove_above, length-remove, remove, cases_lt, inl, inr, subst, get_or, Back, ◌≡◌, ◌≢◌, ◌∙◌, ℕ, zero, suc, ◌+◌, ◌-◌, ◌<◌, ◌≤◌, List, length, slice_index, refl, sym, ap, arith, Node, row, children, child, before, flat, IsFormed, ReachesGap, place, place_at_level}
use Rattle.std.specs.List.{slice_get}
use Rattle.std.specs.Option.{option_map}
use Rattle.std.proofs.lemmas.Option.{slice_get_past}
use Rattle.iddqd_order.specs.Spot.{StandsBehind}
use Rattle.iddqd_order.proofs.TreeLemmas.{place_at_level_in-within}
use Rattle.iddqd_order.proofs.CursorLemmas.{Below, ended-here, ended-leaf, goes-in, place-at}
use Rattle.iddqd_order.proofs.DescentLemmas.{child-read}
use Rattle.iddqd_order.proofs.NodeLemmas.{formed-inner, goes-leaf, lists, place_at_level-within, below-holds, goes-below, holds-here, holds-level, place-leaf, place_at_level-at}
use Rattle.iddqd_order.proofs.SpotCursorLemmas.{ends-here}

behind-in_leaf :
    (h i : ℕ) (n : Node) (p : List ℕ) (ix : ℕ)
    → h ≡ 0
    → i ≡ slice_index p h
    → i < length (row n)
    → ix ≡ slice_index (row n) i
    → StandsBehind h n p ix h
unfolding flat
behind-in_leaf zero i n p ix e ei lt is = record {
  holds = holds-here 0 n p (omega arith);
  place_is = refl;
  index = is ∙ ap (λ z. slice_index (row n) z) (ei ∙ sym (place-leaf 0 n p refl));
}
behind-in_leaf (suc h) i n p ix e ei lt is = absurd (omega arith)

behind-below :
    (h i : ℕ) (n k : Node) (p : List ℕ) (ix l : ℕ)
    → h ≢ 0
    → IsFormed h n
    → Below h i n k p
    → i ≡ slice_index p h
    → StandsBehind (h - 1) k p ix l
    → StandsBehind h n p ix l
behind-below h i n k p ix l ne f b ei s =
    let le = holds-level l (h - 1) k p s.holds in
    let holds = below-holds l h n p ne (rw (← ei) b.here) (rw (← ei, ← b.is) s.holds) in
    let d = goes-below h l i n p (omega arith) ei f holds in
    let at = place-at h i n p ne (sym ei) in
    let low = s.place_is in
    let same : place_at_level l h n p ≡ place h n p =
    omega (arith, d.place, at, low, ap (λ z. place_at_level l (h - 1) z p) b.is, ap (λ z. place (h - 1) z p) b.is) in
    let q : ℕ = place_at_level l (h - 1) (child n i) p in
    let there : place (h - 1) k p ≡ q = sym low ∙ ap (λ z. place_at_level l (h - 1) z p) b.is in
    record {
      holds = holds;
      place_is = same;
      index =
          s.index ∙ (λ j. slice_index (flat (h - 1) (b.is j)) (there j))
          ∙ sym (child-read h n i q ne f b.here d.within) ∙ ap (slice_index (flat h n)) (sym d.place ∙ same);
    }

behind-here :
    (h i : ℕ) (n k : Node) (p : List ℕ) (ix : ℕ)
    → h ≢ 0
    → IsFormed h n
    → Below h i n k p
    → i ≡ slice_index p h
    → place (h - 1) k p ≡ length (flat (h - 1) k)
    → i < length (row n)
    → ix ≡ slice_index (row n) i
    → StandsBehind h n p ix h
behind-here h i n k p ix ne f b ei last lt is =
    let holds = holds-here h n p (omega arith) in
    let own = place_at_level-at h h n p ne refl in
    let at = place-at h i n p ne (sym ei) in
    let whole : length (flat (h - 1) (child n (slice_index p h))) ≡ length (flat (h - 1) (child n i)) =
    ap (λ z. length (flat (h - 1) (child n z))) (sym ei) in
    let front : length (before (slice_index p h) (row n) (lists (h - 1) (children n))) ≡ length (before i (row n) (lists (h - 1) (children n))) =
    ap (λ z. length (before z (row n) (lists (h - 1) (children n)))) (sym ei) in
    let same : place_at_level h h n p ≡ place h n p =
    omega (arith, own, at, whole, front, last, ap (λ z. place (h - 1) z p) b.is, ap (λ z. length (flat (h - 1) z)) b.is) in
    record {
      holds = holds;
      place_is = same;
      index =
          is ∙ sym (ends-here (omega arith) ei f holds).spot_is ∙ ap (λ z. slice_index (flat h n) z) same;
    }

-- what was found behind the gap to which p goes: an index with its level, or none if the gap is behind all
pub record IsFound (h : ℕ) (n : Node) (p : List ℕ) (found : Option (ℕ × ℕ)) : Type 0 where
  pub some : IfSome found (λ r. StandsBehind h n p r.0 r.1)
  pub none : IsNone found → place h n p ≡ length (flat h n)

found-some :
    (h : ℕ) (n : Node) (p : List ℕ) (ix l : ℕ) (found : Option (ℕ × ℕ))
    → found ≡ Some (ix, l)
    → StandsBehind h n p ix l
    → IsFound h n p found
found-some h n p ix l found is s = subst (IsFound h n p) (sym is) (record { some = s; none = λ none. absurd (cc) })

-- A walk from the node n down has come to the node k at level l. What is behind the gap below k is so below n, too. If
-- the gap is behind all below k, then `above` was found.
pub record LooksBehind (h l : ℕ) (n k : Node) (p : List ℕ) (above : Option (ℕ × ℕ)) : Type 0 where
  pub low : l ≤ h
  pub formed : IsFormed l k
  pub goes : ReachesGap l k p
  pub below : (ix m : ℕ) → StandsBehind l k p ix m → StandsBehind h n p ix m
  pub last : place l k p ≡ length (flat l k) → IsFound h n p above

-- at gap i of its row, a node at level l offers the index behind it, or else `above`
pub record Offers (k : Node) (i l : ℕ) (above found : Option (ℕ × ℕ)) : Type 0 where
  pub here : i < length (row k) → found ≡ Some (slice_index (row k) i, l)
  pub past : length (row k) ≤ i → found ≡ above

pub found-in_leaf :
    (h l i : ℕ) (n k : Node) (p : List ℕ) (above found : Option (ℕ × ℕ))
    → l ≡ 0
    → i ≡ slice_index p l
    → LooksBehind h l n k p above
    → Offers k i l above found
    → IsFound h n p found
found-in_leaf h l i n k p above found e ei looks offers =
    elim (cases_lt i (length (row k))) [
      | inl lt ↦ found-some h n p (slice_index (row k) i) l found (offers.here lt)
          (looks.below (slice_index (row k) i) l (behind-in_leaf l i k p (slice_index (row k) i) e ei lt refl))
      | inr over ↦ subst (IsFound h n p) (sym (offers.past over))
          (looks.last (ended-leaf Back l i k p e
          (omega (arith, goes-leaf l k p e looks.goes, ap (slice_index p) e, over, ei)) ei))
    ]

pub looks-below :
    (h l i : ℕ) (n k c : Node) (p : List ℕ) (above found : Option (ℕ × ℕ))
    → l ≢ 0
    → i ≡ slice_index p l
    → c ≡ get_or (children k) i c
    → LooksBehind h l n k p above
    → Offers k i l above found
    → LooksBehind h (l - 1) n c p found
looks-below h l i n k c p above found ne ei is looks offers =
    let b = goes-in l i k c p ne ei looks.formed looks.goes is in
    record {
      low = omega (arith, looks.low);
      formed = b.formed;
      goes = b.goes;
      below = λ ix m s. looks.below ix m (behind-below l i k c p ix m ne looks.formed b ei s);
      last = λ end. elim (cases_lt i (length (row k))) [
        | inl lt ↦ found-some h n p (slice_index (row k) i) l found (offers.here lt)
            (looks.below (slice_index (row k) i) l
            (behind-here l i k c p (slice_index (row k) i) ne looks.formed b ei end lt refl))
        | inr over ↦ subst (IsFound h n p) (sym (offers.past over))
            (looks.last (ended-here Back l i k c p ne looks.formed b ei
            (omega (arith, b.here, (formed-inner l k ne looks.formed).inner.one_more, over)) end))
      ];
    }

-- what stands at a spot, and behind a gap, in a table
pub spot-read :
    (r : Option Node) (h l : ℕ) (p : List ℕ)
    → IsTree r h
    → ReachesIndexIn l r h p
    → slice_get (in_order r h) (place_at_level_in l r h p)
    ≡ Some (slice_index (in_order r h) (place_at_level_in l r h p))
spot-read r h l p t w =
    slice_get-get_or (in_order r h) (place_at_level_in l r h p) 0 (place_at_level_in-within AtIndex l r h p t w)

pub behind-read :
    (h : ℕ) (n : Node) (p : List ℕ) (r : Option (ℕ × ℕ))
    → IsFormed h n
    → IfSome r (λ r. StandsBehind h n p r.0 r.1)
    → (IsNone r → place h n p ≡ length (flat h n))
    → option_map (λ (r : ℕ × ℕ). r.0) r ≡ slice_get (flat h n) (place h n p)
behind-read h n p None f s last = sym (slice_get_past (flat h n) (place h n p) (omega (arith, last refl)))
behind-read h n p (Some (ix, l)) f s last =
    let lt = place_at_level-within l h n p f s.holds in
    let low = s.place_is in
    ap Some s.index ∙ sym (slice_get-get_or (flat h n) (place h n p) 0 (omega arith))

-- after a removal, what stood behind stands there
pub remove-next :
    (xs : List ℕ) (i : ℕ)
    → i < length xs
    → slice_get (remove xs i) i ≡ slice_get xs (i + 1)
remove-next xs i lt =
    let long = length-remove xs i lt in
    elim (cases_lt (i + 1) (length xs)) [
      | inl more ↦ slice_get-get_or (remove xs i) i 0 (omega arith) ∙ ap Some (get_or-remove_above xs i 0 i (omega arith) lt) ∙ sym (slice_get-get_or xs (i + 1) 0 more)
      | inr last ↦ slice_get_past (remove xs i) i (omega arith) ∙ sym (slice_get_past xs (i + 1) last)
    ]
