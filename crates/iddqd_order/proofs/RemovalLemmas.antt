-- What a removal below a node leaves of the node.
use Rattle.iddqd_order.proofs.Names.{get_or_default, ◌≡◌, ◌≢◌, ℕ, zero, suc, ◌+◌, ◌-◌, ◌<◌, ◌≤◌, List, [], ◌∷◌, ◌++◌, length, take, drop, set, get_or, remove, slice_index, refl, ap, sym, ◌∙◌, subst, arith, sub-one, length-set, get_or-set_same, get_or-set_other, All, vec_capacity, Option, Some, None, map, length-map, map-set, length_push, nil_from_length, append-nil, take_more, take_all, drop_all, length-remove, Node, Node-F, roll-Node, row, children, child, child_room, weave, before, flat, IsInner, IsFormed, ReachesIndex, place_at_level, IsChild, MayLackOne, IsMended, IsEmptied, in_order, IsTree, least_in_row, most_children}
use Rattle.iddqd_order.specs.Tree.{inners_in}
use Rattle.std.specs.List.{sum_by}
unfoldable use Rattle.iddqd_order.specs.Node.{inners}
pub use Rattle.iddqd_order.proofs.NodeLemmas.{GoesBelow, goes-below, holds-leaf, holds-at, holds-level, holds-below, place_at_level-leaf, place_at_level-at, place_at_level-below, place_at_level-within}
use Rattle.iddqd_order.proofs.NodeLemmas.{lists, lists-one_more, lists-at, child-within, formed-leaf, leaf-formed, flat-leaf, formed-inner, inner-formed, flat-inner, room-roll}
use Rattle.iddqd_order.proofs.WeaveLemmas.{index_place}
use Rattle.iddqd_order.proofs.WeaveRemovalLemmas.{weave-taken, weave-replaced, weave-last}

-- a path goes to the i-th index of an inner node
pub record EndsInner (h l i : ℕ) (n : Node) (p : List ℕ) : Type 0 where
  pub within : i < length (row n)
  pub here : i < length (children n)
  pub place : place_at_level l h n p ≡ index_place i (row n) (lists (h - 1) (children n))

pub ends-inner :
    (h l i : ℕ) (n : Node) (p : List ℕ)
    → h ≢ 0
    → h ≡ l
    → i ≡ slice_index p h
    → IsFormed h n
    → ReachesIndex l h n p
    → EndsInner h l i n p
ends-inner h l i n p ne e ei f w =
    let at : i < length (row n) = rw ei (holds-at l h n p ne e w) in
    let one = (formed-inner h n ne f).inner.one_more in
    let here : i < length (children n) = omega arith in
    let b : ℕ → ℕ = λ z. length (before z (row n) (lists (h - 1) (children n))) in
    record {
      within = at;
      here = here;
      place =
          place_at_level-at l h n p ne e ∙ ap (λ z. b z + length (flat (h - 1) (child n z))) (sym ei)
          ∙ ap (λ z. b i + length z) (sym (lists-at (h - 1) n i here));
    }

-- A node's indexes and children, after an index was removed below the i-th child: together they hold `left`.
pub record TookBelow (h i : ℕ) (old : Node) (xs : List ℕ) (ks : List Node) (left : List ℕ) : Type 0 where
  pub ne : h ≢ 0
  pub inner : IsInner old
  pub same : length xs ≡ length (row old)
  pub may_lack : MayLackOne (h - 1) i xs ks
  pub items : weave xs (lists (h - 1) ks) ≡ left

took :
    (h i : ℕ) (old g k : Node) (xs left : List ℕ)
    → h ≢ 0
    → IsFormed h old
    → 1 ≤ length (row old)
    → i < length (children old)
    → g ≡ child old i
    → length xs ≡ length (row old)
    → IsFormed (h - 1) k
    → length (row g) ≤ length (row k) + 1
    → weave xs (lists (h - 1) (set (children old) i k)) ≡ left
    → TookBelow h i old xs (set (children old) i k) left
took h i old g k xs left ne f some lt is_g same fk few items =
    let fs = formed-inner h old ne f in
    let w = fs.inner.within in let om = fs.inner.one_more in
    let n = length-set (children old) i k in
    let five : least_in_row ≤ length (row g) = rw is_g (fs.below i old lt).0 in
    let four : least_in_row ≤ length (row k) + 1 = omega arith in
    record {
      ne = ne;
      inner = fs.inner;
      same = same;
      may_lack = record {
        some = omega arith;
        within = omega arith;
        one_more = omega arith;
        here = omega arith;
        at = λ d. rw (get_or-set_same (children old) i k d lt) (four, fk);
        others =
            λ j d q apart_from. rw (get_or-set_other (children old) i j k d apart_from) (fs.below j d (omega arith));
      };
      items = items;
    }

-- all indexes of the node, after a removal below its i-th child that leaves k of it
woven-taken :
    (l h i : ℕ) (old k : Node) (p : List ℕ)
    → IsFormed h old
    → GoesBelow h l i old p
    → flat (h - 1) k ≡ remove (flat (h - 1) (child old i)) (place_at_level l (h - 1) (child old i) p)
    → weave (row old) (lists (h - 1) (set (children old) i k)) ≡ remove (flat h old) (place_at_level l h old p)
woven-taken l h i old k p f b items =
    let ks : List (List ℕ) = lists (h - 1) (children old) in
    let q : ℕ = place_at_level l (h - 1) (child old i) p in
    let here = b.here in
    let at = lists-at (h - 1) old i here in
    let lt : q < length (get_or ks i []) = rw at b.within in
    let is : flat (h - 1) k ≡ remove (get_or ks i []) q = rw at items in
    ap (λ z. weave (row old) z) (map-set (λ k. flat (h - 1) k) (children old) i k)
    ∙ weave-taken i (row old) ks [] (flat (h - 1) k) q
    (omega (arith, length-map (children old) (λ k. flat (h - 1) k))) (lists-one_more h old b.inner f) lt is
    ∙ ap (λ z. remove (weave (row old) ks) z) (sym b.place)
    ∙ ap (λ z. remove z (place_at_level l h old p)) (sym (flat-inner h old b.inner))

-- the path goes on into the i-th child
pub took-below :
    (l h i : ℕ) (old g k : Node) (p : List ℕ)
    → h ≢ 0
    → h ≢ l
    → i ≡ slice_index p h
    → IsFormed h old
    → 1 ≤ length (row old)
    → ReachesIndex l h old p
    → g ≡ get_or (children old) i g
    → flat (h - 1) k ≡ remove (flat (h - 1) g) (place_at_level l (h - 1) g p)
    → IsFormed (h - 1) k
    → length (row g) ≤ length (row k) + 1
    → TookBelow h i old (row old) (set (children old) i k) (remove (flat h old) (place_at_level l h old p))
took-below l h i old g k p ne e ei f some w is_g items fk few =
    let b = goes-below h l i old p (omega (arith, holds-level l h old p w)) ei f w in
    let same : g ≡ child old i = is_g ∙ get_or_default (children old) i g old b.here in
    took h i old g k (row old) _ ne f some b.here same refl fk few
    (woven-taken l h i old k p f b (items ∙ ap (λ z. remove (flat (h - 1) z) (place_at_level l (h - 1) z p)) same))

-- the path ends at this node, and the last index below its i-th child replaces the i-th index
pub took-here :
    (l h i : ℕ) (old g k : Node) (p : List ℕ) (last : ℕ)
    → h ≢ 0
    → h ≡ l
    → i ≡ slice_index p h
    → IsFormed h old
    → 1 ≤ length (row old)
    → ReachesIndex l h old p
    → g ≡ get_or (children old) i g
    → flat (h - 1) g ≡ flat (h - 1) k ++ last ∷ []
    → IsFormed (h - 1) k
    → length (row g) ≤ length (row k) + 1
    → TookBelow h i old (set (row old) i last) (set (children old) i k) (remove (flat h old) (place_at_level l h old p))
took-here l h i old g k p last ne e ei f some w is_g items fk few =
    let s = ends-inner h l i old p ne e ei f w in
    let same : g ≡ child old i = is_g ∙ get_or_default (children old) i g old s.here in
    let ks : List (List ℕ) = lists (h - 1) (children old) in
    let is : get_or ks i [] ≡ flat (h - 1) k ++ last ∷ [] =
    lists-at (h - 1) old i s.here ∙ ap (λ z. flat (h - 1) z) (sym same) ∙ items in
    took h i old g k (set (row old) i last) _ ne f some s.here same (length-set (row old) i last) fk few
    (ap (λ z. weave (set (row old) i last) z) (map-set (λ k. flat (h - 1) k) (children old) i k)
    ∙ weave-replaced i (row old) ks [] (flat (h - 1) k) last s.within (lists-one_more h old ne f) is
    ∙ ap (λ z. remove (weave (row old) ks) z) (sym s.place)
    ∙ ap (λ z. remove z (place_at_level l h old p)) (sym (flat-inner h old ne)))

-- the last index of the last child was taken
pub record TookLast (h count : ℕ) (old : Node) (ks : List Node) (last : ℕ) : Type 0 where
  pub took : TookBelow h count old (row old) ks (weave (row old) (lists (h - 1) ks))
  pub items : flat h old ≡ weave (row old) (lists (h - 1) ks) ++ last ∷ []

pub took-last :
    (h count : ℕ) (old g k : Node) (last : ℕ)
    → h ≢ 0
    → count ≡ length (row old)
    → IsFormed h old
    → 1 ≤ length (row old)
    → g ≡ get_or (children old) count g
    → flat (h - 1) g ≡ flat (h - 1) k ++ last ∷ []
    → IsFormed (h - 1) k
    → length (row g) ≤ length (row k) + 1
    → TookLast h count old (set (children old) count k) last
took-last h count old g k last ne ec f some is_g items fk few =
    let om = (formed-inner h old ne f).inner.one_more in
    let here : count < length (children old) = omega arith in
    let same : g ≡ child old count = is_g ∙ get_or_default (children old) count g old here in
    let ls : List (List ℕ) = lists (h - 1) (children old) in
    let is : get_or ls (length (row old)) [] ≡ flat (h - 1) k ++ last ∷ [] =
    ap (λ z. get_or ls z []) (sym ec) ∙ lists-at (h - 1) old count here ∙ ap (λ z. flat (h - 1) z) (sym same)
    ∙ items in
    record {
      took = took h count old g k (row old) _ ne f some here same refl fk few refl;
      items =
          flat-inner h old ne
          ∙ weave-last (row old) ls [] (flat (h - 1) k) last (lists-one_more h old ne f) is
          ∙ ap (λ z. weave (row old) (set ls z (flat (h - 1) k)) ++ last ∷ []) (sym ec)
          ∙ ap (λ z. weave (row old) z ++ last ∷ []) (sym (map-set (λ k. flat (h - 1) k) (children old) count k));
    }

-- a node whose indexes and children were mended
pub record IsRemade (h : ℕ) (old new : Node) (left : List ℕ) : Type 0 where
  pub items : flat h new ≡ left
  pub formed : IsFormed h new
  pub fewer : length (row old) ≤ length (row new) + 1

pub remade :
    (h i : ℕ) (old new : Node) (xs new_xs : List ℕ) (ks new_ks : List Node) (left : List ℕ)
    → TookBelow h i old xs ks left
    → IsMended (h - 1) xs ks new_xs new_ks
    → row new ≡ new_xs
    → children new ≡ new_ks
    → child_room old ≤ child_room new
    → IsRemade h old new left
remade h i old new xs new_xs ks new_ks left t m er ek rm =
    let hr = t.inner.has_room in let sm = t.same in let fw = m.fewer in let wi = m.within in
    let om = m.one_more in
    record {
      items =
          flat-inner h new t.ne ∙ ap (λ z. weave z (lists (h - 1) (children new))) er
          ∙ ap (λ z. weave new_xs (lists (h - 1) z)) ek ∙ m.items ∙ t.items;
      formed =
          inner-formed h new t.ne (record { within = rw er wi; one_more = rw (er, ek) om; has_room = omega arith })
          (rw ek m.below);
      fewer = rw er (omega arith);
    }

-- the node when an index was taken from its i-th child, before it is mended
pub record TookNow (h i : ℕ) (old now : Node) (left : List ℕ) : Type 0 where
  pub took : TookBelow h i old (row now) (children now) left
  pub room_is : child_room now ≡ child_room old

pub took-now :
    (h i : ℕ) (old now : Node) (xs : List ℕ) (ks : List Node) (left : List ℕ)
    → TookBelow h i old xs ks left
    → row now ≡ xs
    → children now ≡ ks
    → child_room now ≡ child_room old
    → TookNow h i old now left
took-now h i old now xs ks left t er ek rm = record { took = rw (er, ek) t; room_is = rm }

-- at a leaf
pub remade-leaf :
    (l h i : ℕ) (old new : Node) (p : List ℕ)
    → h ≡ 0
    → i ≡ slice_index p h
    → IsFormed h old
    → ReachesIndex l h old p
    → row new ≡ remove (row old) i
    → children new ≡ children old
    → IsRemade h old new (remove (flat h old) (place_at_level l h old p))
remade-leaf l h i old new p e ei f w eri ek =
    let lf = formed-leaf h old e f in
    let wi = lf.within in
    let lt = holds-leaf l h old p e w in
    let er : row new ≡ remove (row old) (slice_index p 0) =
    eri ∙ ap (λ z. remove (row old) z) (ei ∙ ap (λ z. slice_index p z) e) in
    let n : length (row new) + 1 ≡ length (row old) =
    ap (λ z. length z + 1) er ∙ length-remove (row old) (slice_index p 0) lt in
    record {
      items = rw (flat-leaf h new e, flat-leaf h old e, place_at_level-leaf l h old p e) er;
      formed = leaf-formed h new e (record { within = omega arith; childless = ek ∙ lf.childless });
      fewer = omega arith;
    }

-- the last of a leaf
pub record IsLastTaken (h : ℕ) (old new : Node) (last : ℕ) : Type 0 where
  pub items : flat h old ≡ flat h new ++ last ∷ []
  pub formed : IsFormed h new
  pub fewer : length (row old) ≤ length (row new) + 1

removed-last : (xs : List ℕ) → 1 ≤ length xs → xs ≡ remove xs (length xs - 1) ++ get_or xs (length xs - 1) 0 ∷ []
removed-last xs some =
    let i : ℕ = length xs - 1 in
    let j : i + 1 ≡ length xs = omega arith in
    let gone : drop (suc i) xs ≡ [] = drop_all (suc i) xs (omega arith) in
    let whole : take (i + 1) xs ≡ xs = take_all (i + 1) xs (omega arith) in
    sym whole ∙ take_more xs i 0 (omega arith)
    ∙ ap (λ z. z ++ get_or xs i 0 ∷ []) (sym (append-nil (take i xs)) ∙ ap (λ z. take i xs ++ z) (sym gone))

pub last-of-leaf :
    (h count : ℕ) (old new : Node) (last : ℕ)
    → h ≡ 0
    → count ≡ length (row old)
    → IsFormed h old
    → 1 ≤ length (row old)
    → row new ≡ remove (row old) (count - 1)
    → last ≡ slice_index (row old) (count - 1)
    → children new ≡ children old
    → IsLastTaken h old new last
last-of-leaf h count old new last e ec f some erc elc ek =
    let er : row new ≡ remove (row old) (length (row old) - 1) = erc ∙ ap (λ z. remove (row old) (z - 1)) ec in
    let el : last ≡ slice_index (row old) (length (row old) - 1) = elc ∙ ap (λ z. slice_index (row old) (z - 1)) ec in
    let lf = formed-leaf h old e f in
    let wi = lf.within in
    let all : row old ≡ row new ++ last ∷ [] =
    removed-last (row old) some ∙ ap (λ z. z ++ slice_index (row old) (length (row old) - 1) ∷ []) (sym er)
    ∙ ap (λ z. row new ++ z ∷ []) (sym el) in
    let n : length (row old) ≡ length (row new) + 1 = ap length all ∙ length_push (row new) last in
    record {
      items = rw (flat-leaf h new e, flat-leaf h old e) all;
      formed = leaf-formed h new e (record { within = omega arith; childless = ek ∙ lf.childless });
      fewer = omega arith;
    }

-- the child to which a path goes
pub record ChildAt (l h : ℕ) (n g : Node) (p : List ℕ) : Type 0 where
  pub formed : IsChild (h - 1) g
  pub holds : ReachesIndex l (h - 1) g p

pub child-below :
    (l h i : ℕ) (n g : Node) (p : List ℕ)
    → h ≢ 0
    → h ≢ l
    → i ≡ slice_index p h
    → IsFormed h n
    → ReachesIndex l h n p
    → g ≡ get_or (children n) i g
    → ChildAt l h n g p
child-below l h i n g p ne e ei f w is_g =
    let down = holds-below l h n p ne e w in
    let same : g ≡ child n (slice_index p h) =
    subst (λ z. g ≡ get_or (children n) z g) ei is_g
    ∙ get_or_default (children n) (slice_index p h) g n down.here in
    record { formed = rw same ((formed-inner h n ne f).below (slice_index p h) n down.here); holds = rw same down.on }

-- the child before an index
pub child-before :
    (h i : ℕ) (n g : Node)
    → h ≢ 0
    → i ≤ length (row n)
    → IsFormed h n
    → g ≡ get_or (children n) i g
    → (i < length (children n)) × IsChild (h - 1) g
child-before h i n g ne le f is_g =
    let here = child-within h n i ne f le in
    (here, rw (is_g ∙ get_or_default (children n) i g n here) ((formed-inner h n ne f).below i n here))

-- a node just made has the room of the one before
pub room-kept :
    (n : Node) (r : Node-F Node)
    → vec_capacity r.children ≡ child_room n
    → child_room n ≤ child_room (roll-Node r)
room-kept n r e = let s = room-roll r in omega arith

-- a root without indexes or children
pub record IsBare (h : ℕ) (r : Option Node) : Type 0 where
  pub items : in_order r h ≡ []
  pub inners : inners_in r h ≡ 0

pub bare : (h : ℕ) (r : Option Node) (n : Node) → Some n ≡ r → IsEmptied r h → length (children n) ≡ 0 → IsBare h r
unfolding IsFormed flat inners
bare h None n s e none = absurd (cc)
bare zero (Some m) n s e none = record { items = e.1; inners = refl }
bare (suc h) (Some m) n s e none =
    let same : n ≡ m = cc in
    absurd (omega (arith, ap (λ z. length (children z)) same, e.0.0.one_more))

-- the only child of a root without indexes is a tree of one level less, and holds the same
pub record IsLowered (h : ℕ) (r : Option Node) (n : Node) (left : List Node) (k : Node) : Type 0 where
  pub alone : left ≡ []
  pub has_room : most_children ≤ child_room n
  pub inners : inners_in r h ≡ inners (h - 1) k + 1
  pub tree : IsTree (Some k) (h - 1)
  pub items : flat (h - 1) k ≡ in_order r h

pub lowered :
    (h : ℕ) (r : Option Node) (n : Node) (left : List Node) (k : Node)
    → Some n ≡ r
    → IsEmptied r h
    → children n ≡ left ++ k ∷ []
    → IsLowered h r n left k
unfolding IsFormed flat inners
lowered h None n left k s e is = absurd (cc)
lowered zero (Some m) n left k s e is =
    let same : m ≡ n = cc in
    absurd (omega (arith, ap length e.0.childless, ap (λ z. length (children z)) same, ap length is, length_push left k))
lowered (suc h) (Some m) n left k s e is =
    let same : m ≡ n = cc in
    let o = e.0.0.one_more in
    let none : length (row m) ≡ 0 = ap length e.1 in
    let was : children m ≡ left ++ k ∷ [] = ap children same ∙ is in
    let l : length (children m) ≡ length left + 1 = ap length was ∙ length_push left k in
    let alone : left ≡ [] = nil_from_length left (omega arith) in
    let one : children m ≡ k ∷ [] = was ∙ ap (λ z. z ++ k ∷ []) alone in
    let c : IsChild h k = subst (λ z. All (IsChild h) z) one e.0.1 0 k (omega arith) in
    let five = c.0 in let high = e.2 in
    record {
      alone = alone;
      has_room = subst (λ z. most_children ≤ child_room z) same e.0.0.has_room;
      inners = rw sub-one (omega (arith, ap (sum_by (λ k. inners h k)) one));
      tree = rw sub-one (c.1, omega arith, omega arith);
      items = rw sub-one (sym (ap (λ z. weave z (map (λ k. flat h k) (children m))) e.1 ∙ ap (λ z. weave [] (map (λ k. flat h k) z)) one));
    }
