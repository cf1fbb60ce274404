-- What mending leaves of nodes.
use Rattle.iddqd_order.proofs.Names.{◌≡◌, ◌∙◌, ℕ, zero, suc, ◌+◌, ◌-◌, ◌<◌, ◌≤◌, List, [], ◌∷◌, ◌++◌, length, take, drop, set, get_or, map, remove, Option, Some, None, option_to_list, IsSome, ◌↔◌, append_assoc, subst, refl, ap, sym, arith, add-one, sub-one, length-append, length-drop, length-take, length-take-le, length-map, get_or-remove_below, get_or_default, set_comm, All, All-append, All-cons, All-nil, inl, inr, cases_eq, map-append, nil_from_length, Node, row, children, child_room, weave, flat, IsFormed, IsChild, MayLackOne, IsMended, all_children, append-nil, most_in_row, least_in_row}
use Rattle.std.proofs.Common.{get_or-take, get_or-drop, take-suc, take-suc-set, drop-set-lt, length-set}
use Rattle.std.proofs.lemmas.List.{set_split, set_at}
use Rattle.iddqd_order.proofs.WeaveLemmas.{All-front, All-back, rest, weave-more}
use Rattle.iddqd_order.proofs.NodeLemmas.{lists}

-- how many children a node of k indexes has, h levels above the leaves
abbrev pub arity : ℕ → ℕ → ℕ
arity zero k = 0
arity (suc h) k = k + 1

pub arity-most : (h k : ℕ) → arity h k ≤ k + 1
arity-most zero k = omega arith
arity-most (suc h) k = omega arith

arity-joined : (h a b c : ℕ) → c ≡ a + suc b → arity h c ≡ arity h a + arity h b
arity-joined zero a b c e = omega arith
arity-joined (suc h) a b c e = omega arith

arity-fits : (h a b : ℕ) → a + b < most_in_row → arity h a + arity h b ≤ arity h most_in_row
arity-fits zero a b few = omega arith
arity-fits (suc h) a b few = omega arith

-- the counts of a node, a leaf or not
pub record IsSized (h : ℕ) (n : Node) : Type 0 where
  pub within : length (row n) ≤ most_in_row
  pub count : length (children n) ≡ arity h (length (row n))
  pub has_room : arity h most_in_row ≤ child_room n

pub formed-sized : (h : ℕ) (n : Node) → IsFormed h n → IsSized h n × All (IsChild (h - 1)) (children n)
unfolding IsFormed
formed-sized zero n f = (record { within = f.within; count = ap length f.childless; has_room = omega arith }, rw f.childless (All-nil (IsChild 0)))
formed-sized (suc h) n f =
    (record { within = f.0.within; count = f.0.one_more; has_room = f.0.has_room }, rw sub-one f.1)

pub sized-formed : (h : ℕ) (n : Node) → IsSized h n → All (IsChild (h - 1)) (children n) → IsFormed h n
unfolding IsFormed
sized-formed zero n s below = record { within = s.within; childless = nil_from_length (children n) s.count }
sized-formed (suc h) n s below =
    (record { within = s.within; one_more = s.count; has_room = s.has_room }, rw sub-one at below)

-- its list
pub flat-sized : (h : ℕ) (n : Node) → IsSized h n → flat h n ≡ weave (row n) (lists (h - 1) (children n))
unfolding flat
flat-sized zero n s = rw (nil_from_length (children n) s.count)
flat-sized (suc h) n s = rw sub-one

-- and the lists of two with an index between them
flat-pair :
    (h : ℕ) (l : Node) (x : ℕ) (r : Node)
    → IsSized h l
    → IsSized h r
    → flat h l ++ x ∷ flat h r ≡ weave (row l ++ x ∷ row r) (lists (h - 1) (children l ++ children r))
unfolding flat
flat-pair zero l x r sl sr = rw (nil_from_length (children l) sl.count, nil_from_length (children r) sr.count)
flat-pair (suc h) l x r sl sr =
    let f : Node → List ℕ = λ k. flat h k in
    rw sub-one (sym (ap (weave (row l ++ x ∷ row r)) (map-append f (children l) (children r)) ∙ weave-more (row l) (x ∷ row r) (map f (children l)) (map f (children r)) (omega (arith, sl.count, length-map (children l) f))))

-- the i-th child and the next one, one of which may lack an index
pub record AreNeighbours (h i : ℕ) (xs : List ℕ) (ks : List Node) (l r : Node) : Type 0 where
  pub within : length xs ≤ most_in_row
  pub one_more : length ks ≡ length xs + 1
  pub here : i < length xs
  pub left : l ≡ get_or ks i l
  pub right : r ≡ get_or ks (suc i) r
  pub left_is : (least_in_row ≤ length (row l) + 1) × IsFormed h l
  pub right_is : (least_in_row ≤ length (row r) + 1) × IsFormed h r
  pub before : All (IsChild h) (take i ks)
  pub behind : All (IsChild h) (drop (suc (suc i)) ks)

pub neighbours :
    (h i j : ℕ) (xs : List ℕ) (ks : List Node) (l r : Node)
    → i ≤ j
    → j ≤ i + 1
    → i < length xs
    → MayLackOne h j xs ks
    → l ≡ get_or ks i l
    → r ≡ get_or ks (i + 1) r
    → AreNeighbours h i xs ks l r
neighbours h i j xs ks l r low high lt f el er =
    let o = f.one_more in let before = length-take i ks in let behind = length-drop (suc (suc i)) ks in
    let right : r ≡ get_or ks (suc i) r = er ∙ ap (λ z. get_or ks z r) (add-one i) in
    let each : (k : ℕ) (d : Node) → k < length ks → (least_in_row ≤ length (row (get_or ks k d)) + 1) × IsFormed h (get_or ks k d) = λ k d w. elim (cases_eq k j) [
      | inl e ↦ rw e (f.at d)
      | inr ne ↦ (let c = f.others k d w ne in let five = c.0 in (omega arith, c.1))
    ] in
    record {
      within = f.within;
      one_more = o;
      here = lt;
      left = el;
      right = right;
      left_is = rw el (each i l (omega arith));
      right_is = rw right (each (suc i) r (omega arith));
      before =
          λ k d w. rw (get_or-take i ks k d (omega arith)) (f.others k d (omega arith) (λ e. absurd (omega arith)));
      behind = λ k d w. rw (get_or-drop (suc (suc i)) ks k d) (f.others (suc (suc i) + k) d (omega arith) (λ e. absurd (omega arith)));
    }

-- two neighbours are replaced by nodes with the same indexes: the whole order stays
woven :
    (f : Node → List ℕ) (i : ℕ) (xs ys : List ℕ) (ks ls : List Node) (l r : Node)
    → i < length xs
    → length ks ≡ length xs + 1
    → l ≡ get_or ks i l
    → r ≡ get_or ks (suc i) r
    → length ls ≡ length ys + 1
    → weave ys (map f ls) ≡ f l ++ get_or xs i 0 ∷ f r
    → weave (take i xs ++ (ys ++ drop (suc i) xs))
    (map f (take i ks ++ (ls ++ drop (suc (suc i)) ks))) ≡ weave xs (map f ks)
woven f i [] ys ks ls l r lt e el er n s = absurd (omega arith)
woven f i (x ∷ xs) ys [] ls l r lt e el er n s = absurd (omega arith)
woven f i (x ∷ xs) ys (k ∷ []) ls l r lt e el er n s = absurd (omega arith)
woven f zero (x ∷ xs) ys (k ∷ (k2 ∷ ks)) ls l r lt e el er n s =
    let b : List ℕ = rest xs (map f ks) in
    ap (weave (ys ++ xs)) (map-append f ls ks)
    ∙ weave-more ys xs (map f ls) (map f ks) (omega (arith, n, length-map ls f))
    ∙ ap (λ z. z ++ b) (s ∙ (λ j. f (el j) ++ x ∷ f (er j))) ∙ append_assoc (f k) (x ∷ f k2) b
    ∙ ap (λ z. f k ++ x ∷ z) (sym (weave-more [] xs (f k2 ∷ []) (map f ks) refl))
woven f (suc i) (x ∷ xs) ys (k ∷ (k2 ∷ ks)) ls l r lt e el er n s =
    ap (λ z. f k ++ x ∷ z) (woven f i xs ys (k2 ∷ ks) ls l r (omega arith) (omega arith) el er n s)

all_children-append : (ks ls : List Node) → all_children (ks ++ ls) ≡ all_children ks ++ all_children ls
all_children-append [] ls = refl
all_children-append (k ∷ ks) ls =
    ap (λ z. children k ++ z) (all_children-append ks ls)
    ∙ sym (append_assoc (children k) (all_children ks) (all_children ls))

-- and with the same children: their order stays, too
same_children :
    (i : ℕ) (ks ls : List Node) (l r : Node)
    → suc i < length ks
    → l ≡ get_or ks i l
    → r ≡ get_or ks (suc i) r
    → all_children ls ≡ children l ++ children r
    → all_children (take i ks ++ (ls ++ drop (suc (suc i)) ks)) ≡ all_children ks
same_children i [] ls l r lt el er s = absurd (omega arith)
same_children i (k ∷ []) ls l r lt el er s = absurd (omega arith)
same_children zero (k ∷ (k2 ∷ ks)) ls l r lt el er s =
    all_children-append ls ks
    ∙ ap (λ z. z ++ all_children ks) (s ∙ (λ j. children (el j) ++ children (er j)))
    ∙ append_assoc (children k) (children k2) (all_children ks)
same_children (suc i) (k ∷ (k2 ∷ ks)) ls l r lt el er s =
    ap (λ z. children k ++ z) (same_children i (k2 ∷ ks) ls l r (omega arith) el er s)

mended :
    (h i : ℕ) (xs ys : List ℕ) (ks ls : List Node) (l r : Node)
    → AreNeighbours h i xs ks l r
    → length ls ≡ length ys + 1
    → length ys ≤ 1
    → All (IsChild h) ls
    → weave ys (lists h ls) ≡ flat h l ++ get_or xs i 0 ∷ flat h r
    → weave ys (map row ls) ≡ row l ++ get_or xs i 0 ∷ row r
    → all_children ls ≡ children l ++ children r
    → IsMended h xs ks (take i xs ++ (ys ++ drop (suc i) xs)) (take i ks ++ (ls ++ drop (suc (suc i)) ks))
mended h i xs ys ks ls l r n one few all items same_rows below =
    let o = n.one_more in let at = n.here in let w = n.within in
    let rows : length (take i xs ++ (ys ++ drop (suc i) xs)) + 1 ≡ length xs + length ys =
    omega (arith, length-append (take i xs) (ys ++ drop (suc i) xs), length-append ys (drop (suc i) xs), length-take-le i xs (omega arith), length-drop (suc i) xs) in
    let count : length (take i ks ++ (ls ++ drop (suc (suc i)) ks)) + 2 ≡ length ks + length ls =
    omega (arith, length-append (take i ks) (ls ++ drop (suc (suc i)) ks), length-append ls (drop (suc (suc i)) ks), length-take-le i ks (omega arith), length-drop (suc (suc i)) ks) in
    record {
      within = omega arith;
      fewer = omega arith;
      one_more = omega arith;
      below = All-append (IsChild h) (take i ks) (ls ++ drop (suc (suc i)) ks) n.before (All-append (IsChild h) ls (drop (suc (suc i)) ks) all n.behind);
      items = woven (λ k. flat h k) i xs ys ks ls l r at o n.left n.right one items;
      rows = woven row i xs ys ks ls l r at o n.left n.right one same_rows;
      grandchildren = same_children i ks ls l r (omega arith) n.left n.right below;
    }

set_pair :
    (ks : List Node) (i : ℕ) (l r : Node)
    → suc i < length ks
    → set (set ks i l) (suc i) r ≡ take i ks ++ l ∷ r ∷ drop (suc (suc i)) ks
set_pair ks i l r lt =
    set_split (set ks i l) (suc i) r (omega (arith, length-set ks i l))
    ∙ (λ j. take-suc-set ks i l (omega arith) j ++ r ∷ drop-set-lt (suc (suc i)) ks i l (omega arith) j)
    ∙ append_assoc (take i ks) (l ∷ []) (r ∷ drop (suc (suc i)) ks)

set_joined :
    (ks : List Node) (i : ℕ) (one : Node)
    → suc i < length ks
    → set (remove ks (suc i)) i one ≡ take i ks ++ one ∷ drop (suc (suc i)) ks
set_joined ks i one lt =
    let behind : List Node = drop (suc (suc i)) ks in
    ap (λ z. set (z ++ behind) i one) (take-suc ks i one (omega arith))
    ∙ ap (λ z. set z i one) (append_assoc (take i ks) (get_or ks i one ∷ []) behind)
    ∙ set_at (take i ks) (get_or ks i one) behind one i (length-take-le i ks (omega arith))

-- the indexes of two neighbours, and the one between them, are distributed anew
mended-shared :
    (h i : ℕ) (xs : List ℕ) (ks : List Node) (l r new_l : Node) (m : ℕ) (new_r : Node)
    → AreNeighbours h i xs ks l r
    → row new_l ++ m ∷ row new_r ≡ row l ++ get_or xs i 0 ∷ row r
    → children new_l ++ children new_r ≡ children l ++ children r
    → (least_in_row ≤ length (row new_l)) × IsSized h new_l
    → (least_in_row ≤ length (row new_r)) × IsSized h new_r
    → IsMended h xs ks (set xs i m) (set (set ks i new_l) (i + 1) new_r)
mended-shared h i xs ks l r new_l m new_r n rows below left right =
    let o = n.one_more in let at = n.here in
    let P : Node → Type 0 = IsChild (h - 1) in
    let a = formed-sized h l n.left_is.1 in let b = formed-sized h r n.right_is.1 in
    let every : All P (children new_l ++ children new_r) = rw below (All-append P (children l) (children r) a.1 b.1) in
    let low : IsChild h new_l =
    (left.0, sized-formed h new_l left.1 (All-front P (children new_l) (children new_r) every)) in
    let high : IsChild h new_r =
    (right.0, sized-formed h new_r right.1 (All-back P (children new_l) (children new_r) every)) in
    rw (add-one i, set_split xs i m at, set_pair ks i new_l new_r (omega arith))
    (mended h i xs (m ∷ []) ks (new_l ∷ new_r ∷ []) l r n refl (omega arith) (All-cons (IsChild h) new_l (new_r ∷ []) low (All-cons (IsChild h) new_r [] high (All-nil (IsChild h))))
    (flat-pair h new_l m new_r left.1 right.1 ∙ (λ j. weave (rows j) (lists (h - 1) (below j))) ∙ sym (flat-pair h l (get_or xs i 0) r a.0 b.0))
    rows (ap (λ z. children new_l ++ z) (append-nil (children new_r)) ∙ below))

-- the last index of l moved up between the nodes, the index x between them moved to the beginning of r, and so did the
-- last child of l, if there is one
pub record IsPassed (l : Node) (x : ℕ) (r new_l : Node) (m : ℕ) (new_r : Node) (moved : Option Node) : Type 0 where
  pub left : row l ≡ row new_l ++ m ∷ []
  pub right : row new_r ≡ x ∷ row r
  pub left_children : children l ≡ children new_l ++ option_to_list moved
  pub right_children : children new_r ≡ option_to_list moved ++ children r

-- then all indexes and children are kept, and the numbers of children are right if they were before
record Passed (h : ℕ) (l : Node) (x : ℕ) (r new_l : Node) (m : ℕ) (new_r : Node) : Type 0 where
  pub rows : row new_l ++ m ∷ row new_r ≡ row l ++ x ∷ row r
  pub below : children new_l ++ children new_r ≡ children l ++ children r
  pub left : length (row l) ≡ length (row new_l) + 1
  pub right : length (row new_r) ≡ length (row r) + 1
  pub left_count :
      length (children l) + arity h (length (row new_l)) ≡ length (children new_l) + arity h (length (row l))
  pub right_count :
      length (children new_r) + arity h (length (row r)) ≡ length (children r) + arity h (length (row new_r))

-- one child moves above the leaves, and none at a leaf
moved-one : (h k : ℕ) (moved : Option Node) → IsSome moved ↔ (0 < arity h k) → length (option_to_list moved) ≡ arity h 0
moved-one zero k None iff = refl
moved-one zero k (Some c) iff = absurd (omega (arith, iff.0 refl))
moved-one (suc h) k None iff = cc (iff.1 (omega arith))
moved-one (suc h) k (Some c) iff = refl

passed :
    (h : ℕ) (l : Node) (x : ℕ) (r new_l : Node) (m : ℕ) (new_r : Node) (moved : Option Node)
    → IsPassed l x r new_l m new_r moved
    → length (option_to_list moved) ≡ arity h 0
    → Passed h l x r new_l m new_r
passed h l x r new_l m new_r moved p one =
    let left : length (row l) ≡ length (row new_l) + 1 = simp length-append at (ap length p.left) in
    let right : length (row new_r) ≡ suc (length (row r)) = ap length p.right in
    let left_count : length (children l) ≡ length (children new_l) + length (option_to_list moved) =
    simp length-append at (ap length p.left_children) in
    let right_count : length (children new_r) ≡ length (option_to_list moved) + length (children r) =
    simp length-append at (ap length p.right_children) in
    let shrinks = arity-joined h (length (row new_l)) 0 (length (row l)) left in
    let grows = arity-joined h 0 (length (row r)) (length (row new_r)) (omega arith) in
    record {
      rows =
          ap (λ z. row new_l ++ m ∷ z) p.right ∙ sym (append_assoc (row new_l) (m ∷ []) (x ∷ row r))
          ∙ ap (λ z. z ++ x ∷ row r) (sym p.left);
      below =
          ap (λ z. children new_l ++ z) p.right_children
          ∙ sym (append_assoc (children new_l) (option_to_list moved) (children r))
          ∙ ap (λ z. z ++ children r) (sym p.left_children);
      left = left;
      right = omega arith;
      left_count = omega arith;
      right_count = omega arith;
    }

-- an index and a child were moved from the left one to the right one
pub moved-right :
    (h i : ℕ) (xs : List ℕ) (ks : List Node) (l r new_l new_r : Node) (x last : ℕ) (moved : Option Node)
    → AreNeighbours h i xs ks l r
    → least_in_row < length (row l)
    → length (row r) < least_in_row
    → x ≡ get_or xs i 0
    → IsPassed l x r new_l last new_r moved
    → IsSome moved ↔ (0 < length (children l))
    → child_room new_l ≡ child_room l
    → child_room r ≤ child_room new_r
    → IsMended h xs ks (set xs i last) (set (set ks i new_l) (i + 1) new_r)
moved-right h i xs ks l r new_l new_r x last moved n more few ex p some same_room room_more =
    let a = (formed-sized h l n.left_is.1).0 in let b = (formed-sized h r n.right_is.1).0 in
    let k = passed h l x r new_l last new_r moved p (moved-one h (length (row l)) moved (rw a.count at some)) in
    let four = n.right_is.0 in let low = k.left in let high = k.right in
    mended-shared h i xs ks l r new_l last new_r n (k.rows ∙ ap (λ z. row l ++ z ∷ row r) ex) k.below
    (omega arith, record { within = omega (arith, a.within); count = omega (arith, a.count, k.left_count); has_room = omega (arith, a.has_room) })
    (omega arith, record { within = omega arith; count = omega (arith, b.count, k.right_count); has_room = omega (arith, b.has_room) })

-- or from the right one to the left one
pub moved-left :
    (h i : ℕ) (xs : List ℕ) (ks : List Node) (l r new_l new_r : Node) (x first : ℕ) (moved : Option Node)
    → AreNeighbours h i xs ks l r
    → least_in_row < length (row r)
    → length (row l) < least_in_row
    → x ≡ get_or xs i 0
    → IsPassed new_l first new_r l x r moved
    → IsSome moved ↔ (0 < length (children r))
    → child_room new_r ≡ child_room r
    → child_room l ≤ child_room new_l
    → IsMended h xs ks (set xs i first) (set (set ks (i + 1) new_r) i new_l)
moved-left h i xs ks l r new_l new_r x first moved n more few ex p some same_room room_more =
    let a = (formed-sized h l n.left_is.1).0 in let b = (formed-sized h r n.right_is.1).0 in
    let k = passed h new_l first new_r l x r moved p (moved-one h (length (row r)) moved (rw b.count at some)) in
    let four = n.left_is.0 in let low = k.left in let high = k.right in
    rw (set_comm ks (i + 1) i new_r new_l (λ e. absurd (omega arith)))
    (mended-shared h i xs ks l r new_l first new_r n (sym k.rows ∙ ap (λ z. row l ++ z ∷ row r) ex) (sym k.below)
    (omega arith, record { within = omega arith; count = omega (arith, a.count, k.left_count); has_room = omega (arith, a.has_room) })
    (omega arith, record { within = omega (arith, b.within); count = omega (arith, b.count, k.right_count); has_room = omega (arith, b.has_room) }))

-- a node that has fewer than five indexes has room for a child that its neighbour has given up
pub room-for-one :
    (h : ℕ) (from to : Node) (moved : Option Node)
    → IsFormed h from
    → IsFormed h to
    → length (row to) < least_in_row
    → IsSome moved ↔ (0 < length (children from))
    → length (option_to_list moved) + length (children to) ≤ child_room to
room-for-one h from to moved ff ft few some =
    let a = (formed-sized h from ff).0 in let b = (formed-sized h to ft).0 in
    omega (arith, moved-one h (length (row from)) moved (rw a.count at some), b.count, b.has_room, arity-fits h 0 (length (row to)) (omega arith))

-- two neighbours that fit into one
pub record JoinFits (h i : ℕ) (xs : List ℕ) (ks : List Node) (l r : Node) : Type 0 where
  pub pair : AreNeighbours h i xs ks l r
  pub fits : length (row l) + length (row r) < most_in_row
  pub room_is : length (children l) + length (children r) ≤ child_room l

pub join-fits :
    (h j i : ℕ) (xs : List ℕ) (ks : List Node) (l r : Node)
    → i ≤ j
    → j ≤ i + 1
    → i < length xs
    → MayLackOne h j xs ks
    → ((d : Node) → length (row (get_or ks i d)) + length (row (get_or ks (i + 1) d)) < most_in_row)
    → l ≡ get_or (remove ks (i + 1)) i l
    → r ≡ get_or ks (i + 1) r
    → JoinFits h i xs ks l r
join-fits h j i xs ks l r low high lt f few el er =
    let o = f.one_more in
    let el2 : l ≡ get_or ks i l = el ∙ get_or-remove_below ks (i + 1) l i (omega arith) (omega arith) in
    let er2 : get_or ks (i + 1) l ≡ r = get_or_default ks (i + 1) l r (omega arith) ∙ sym er in
    let n = neighbours h i j xs ks l r low high lt f el2 er in
    let a = (formed-sized h l n.left_is.1).0 in let b = (formed-sized h r n.right_is.1).0 in
    let sum : length (row l) + length (row r) < most_in_row =
    subst (λ z. length (row l) + length (row z) < most_in_row) er2
    (subst (λ z. length (row z) + length (row (get_or ks (i + 1) l)) < most_in_row) (sym el2) (few l)) in
    record {
      pair = n;
      fits = sum;
      room_is = omega (arith, a.count, b.count, a.has_room, arity-fits h (length (row l)) (length (row r)) sum);
    }

-- the right one was joined to the left one
pub merged :
    (h i : ℕ) (xs : List ℕ) (ks : List Node) (l r one : Node) (x : ℕ)
    → JoinFits h i xs ks l r
    → x ≡ get_or xs i 0
    → row one ≡ row l ++ x ∷ row r
    → children one ≡ children l ++ children r
    → child_room l ≤ child_room one
    → IsMended h xs ks (remove xs i) (set (remove ks (i + 1)) i one)
merged h i xs ks l r one x j ex rows below more =
    let n = j.pair in let fits = j.fits in let o = n.one_more in let at = n.here in let four = n.left_is.0 in
    let P : Node → Type 0 = IsChild (h - 1) in
    let a = formed-sized h l n.left_is.1 in let b = formed-sized h r n.right_is.1 in
    let long : length (row one) ≡ length (row l) + suc (length (row r)) = simp length-append at (ap length rows) in
    let count : length (children one) ≡ length (children l) + length (children r) =
    simp length-append at (ap length below) in
    let s : IsSized h one = record { within = omega arith; count = omega (arith, a.0.count, b.0.count, arity-joined h (length (row l)) (length (row r)) (length (row one)) long); has_room = omega (arith, a.0.has_room) } in
    let child : IsChild h one =
    (omega arith, sized-formed h one s (rw below (All-append P (children l) (children r) a.1 b.1))) in
    rw (add-one i, set_joined ks i one (omega arith))
    (mended h i xs [] ks (one ∷ []) l r n refl (omega arith) (All-cons (IsChild h) one [] child (All-nil (IsChild h)))
    (flat-sized h one s ∙ (λ k. weave (rows k) (lists (h - 1) (below k))) ∙ sym (flat-pair h l x r a.0 b.0) ∙ ap (λ z. flat h l ++ z ∷ flat h r) ex)
    (rows ∙ ap (λ z. row l ++ z ∷ row r) ex) (append-nil (children one) ∙ below))
