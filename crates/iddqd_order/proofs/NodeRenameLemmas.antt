-- New names for the indexes of a node and of all below it; a copy has the same names.
use Rattle.iddqd_order.proofs.Names.{◌≡◌, ◌≢◌, ℕ, ◌+◌, ◌-◌, ◌<◌, ◌≤◌, List, [], ◌∷◌, ◌++◌, length, get_or, map, refl, ap, sym, ◌∙◌, subst, arith, All, length-map, get_or-map, map-append, same_lists, All-nil, All-cons, All-head, All-tail, Node, IsCopy, row, children, child_room, weave, flat, IsFormed, before, after, most_in_row}
use Rattle.std.proofs.lemmas.List.{map-id}
use Rattle.iddqd_order.proofs.WeaveLemmas.{All-front, All-back, apart}
use Rattle.iddqd_order.proofs.NodeLemmas.{lists, lists-one_more, formed-inner, flat-inner}
use Rattle.iddqd_order.specs.Node.{inners}
use Rattle.iddqd_order.proofs.RecountLemmas.{inners-alike}
use Rattle.iddqd_order.proofs.MendLemmas.{arity, IsSized, formed-sized, sized-formed, flat-sized}

-- what holds of all woven together holds of the indexes and of each list
weave-own : (P : ℕ → Type 0) (xs : List ℕ) (ks : List (List ℕ)) → All P (weave xs ks) → All P xs
weave-own P xs [] a = a
weave-own P [] (k ∷ ks) a = All-nil P
weave-own P (x ∷ xs) (k ∷ ks) a =
    let r : All P (x ∷ weave xs ks) = All-back P k (x ∷ weave xs ks) a in
    All-cons P x xs (All-head P x (weave xs ks) r) (weave-own P xs ks (All-tail P x (weave xs ks) r))

weave-each :
    (P : ℕ → Type 0) (xs : List ℕ) (ks : List (List ℕ)) (i : ℕ) (d : List ℕ)
    → length ks ≡ length xs + 1
    → i < length ks
    → All P (weave xs ks)
    → All P (get_or ks i d)
weave-each P xs ks i d e lt a =
    All-front P (get_or ks i d) (after i xs ks)
    (All-back P (before i xs ks) (get_or ks i d ++ after i xs ks) (subst (λ z. All P z) (apart i xs ks d lt e) a))

-- the new names of all woven together
weave-map :
    (f : ℕ → ℕ) (xs : List ℕ) (ks : List (List ℕ))
    → map f (weave xs ks) ≡ weave (map f xs) (map (λ k. map f k) ks)
weave-map f xs [] = refl
weave-map f [] (k ∷ ks) = refl
weave-map f (x ∷ xs) (k ∷ ks) = map-append f k (x ∷ weave xs ks) ∙ ap (λ z. map f k ++ f x ∷ z) (weave-map f xs ks)

-- what a node's own indexes may be asked
pub own-can : (P : ℕ → Type 0) (h : ℕ) (n : Node) → IsFormed h n → All P (flat h n) → All P (row n)
own-can P h n f a =
    weave-own P (row n) (lists (h - 1) (children n)) (subst (All P) (flat-sized h n (formed-sized h n f).0) a)

-- one node with the indexes of another under new names, and its shape
pub record IsRenamed (f : ℕ → ℕ) (h : ℕ) (old new : Node) : Type 0 where
  pub formed : IsFormed h new
  pub same_length : length (row new) ≡ length (row old)
  pub items : flat h new ≡ map f (flat h old)
  pub inners : inners h new ≡ inners h old

-- a node whose own indexes and whose children have new names
pub renamed :
    (f : ℕ → ℕ) (h : ℕ) (old new : Node)
    → IsFormed h old
    → row new ≡ map f (row old)
    → arity h most_in_row ≤ child_room new
    → length (children new) ≡ length (children old)
    → ((j : ℕ) (d : Node) → j < length (children old) → IsRenamed f (h - 1) (get_or (children old) j d)
    (get_or (children new) j d))
    → IsRenamed f h old new
renamed f h old new fo er has_room count each =
    let a = formed-sized h old fo in
    let rows : length (row new) ≡ length (row old) = ap length er ∙ length-map (row old) f in
    let arities = ap (arity h) rows in
    let g : Node → List ℕ = λ k. flat (h - 1) k in
    let olds : List (List ℕ) = lists (h - 1) (children old) in
    let ln = length-map (children new) g in
    let lo = length-map (children old) g in
    let lm = length-map olds (λ k. map f k) in
    let below : lists (h - 1) (children new) ≡ map (λ k. map f k) olds = same_lists (lists (h - 1) (children new)) (map (λ k. map f k) olds) (omega arith)
    (λ j d lt. get_or-map g (children new) j old d (omega arith) ∙ (each j old (omega arith)).items ∙ ap (map f) (sym (get_or-map g (children old) j old d (omega arith)))
    ∙ sym (get_or-map (λ k. map f k) olds j d d (omega arith))) in
    let s : IsSized h new =
    record { within = omega (arith, a.0.within); count = omega (arith, a.0.count); has_room = has_room } in
    record {
      formed = sized-formed h new s (λ j d lt. let e = each j d (omega arith) in let five = (a.1 j d (omega arith)).0 in let long = e.same_length in (omega arith, e.formed));
      same_length = rows;
      items =
          flat-sized h new s ∙ (λ j. weave (er j) (below j)) ∙ sym (weave-map f (row old) olds)
          ∙ ap (map f) (sym (flat-sized h old a.0));
      inners = inners-alike h old new count (λ j d lt. (each j d lt).inners);
    }

-- a node whose row and children are copies
pub copied :
    (h : ℕ) (n m : Node)
    → IsFormed h n
    → row m ≡ row n
    → arity h most_in_row ≤ child_room m
    → length (children m) ≡ length (children n)
    → ((j : ℕ) (d : Node) → j < length (children n) → IsCopy (h - 1) (get_or (children n) j d)
    (get_or (children m) j d))
    → IsCopy h n m
copied h n m fn er has_room count each =
    let r = renamed (λ x. x) h n m fn (er ∙ sym (map-id (row n))) has_room count
    (λ j d lt. let c = each j d lt in record { formed = c.formed; same_length = c.same_length; items = c.items ∙ sym (map-id (flat (h - 1) (get_or (children n) j d))); inners = c.inners }) in
    record { formed = r.formed; same_length = r.same_length; items = r.items ∙ map-id (flat h n); inners = r.inners }

-- the first i children have new names, and so has the row
pub record AreRenamed (f : ℕ → ℕ) (h i : ℕ) (old now : Node) : Type 0 where
  pub row_is : row now ≡ map f (row old)
  pub room_is : child_room now ≡ child_room old
  pub length_is : length (children now) ≡ length (children old)
  pub done :
      (j : ℕ) (d : Node)
      → j < i
      → j < length (children old)
      → IsRenamed f h (get_or (children old) j d) (get_or (children now) j d)
  pub rest : (j : ℕ) (d : Node) → i ≤ j → get_or (children now) j d ≡ get_or (children old) j d

-- the next child is formed, and its indexes may be asked
pub next-can :
    (P : ℕ → Type 0) (f : ℕ → ℕ) (h i : ℕ) (old now g : Node)
    → h ≢ 0
    → IsFormed h old
    → All P (flat h old)
    → AreRenamed f (h - 1) i old now
    → i < length (children now)
    → g ≡ get_or (children now) i g
    → IsFormed (h - 1) g × All P (flat (h - 1) g)
next-can P f h i old now g ne fo can a lt is =
    let lists_one = lists-one_more h old ne fo in let one = (formed-inner h old ne fo).inner.one_more in
    let here : i < length (children old) = omega (arith, a.length_is) in
    let was : get_or (children old) i g ≡ g = sym (is ∙ a.rest i g (omega arith)) in
    let list : get_or (lists (h - 1) (children old)) i [] ≡ flat (h - 1) g =
    get_or-map (λ k. flat (h - 1) k) (children old) i g [] here ∙ ap (λ z. flat (h - 1) z) was in (
      subst (λ z. IsFormed (h - 1) z) was ((formed-inner h old ne fo).below i g here).1,
      subst (All P) list (weave-each P (row old) (lists (h - 1) (children old)) i [] lists_one (omega arith) (subst (All P) (flat-inner h old ne) can)),
    )
