-- A walk that takes the items out of slots, one after another.
use Rattle.std.proofs.Common.{◌≡◌, ◌≢◌, ◌∙◌, ◌<◌, ℕ, nat_eq, false, List, [], ◌∷◌, ◌++◌, length, Option, Some, None, IsSome, refl, sym, ap, subst, arith}
use Rattle.std.specs.List.{Contains, IsDistinct, cons_option}
use Rattle.std.specs.Cmp.{nat_eq_equiv}
use Rattle.std.specs.List.{insert}
use Rattle.std.specs.List.Sorted.{IsPermutation}
use Rattle.std.proofs.lemmas.Bool.{eqb-false}
use Rattle.std.proofs.lemmas.List.{length_push}
use Rattle.std.proofs.lemmas.List.Elements.{filter_map-append, All-contains, All-from_recursion}
use Rattle.std.proofs.lemmas.List.Sorted.{Contains-permutation, IsPermutation-insert, IsPermutation-sym}
use Rattle.std.proofs.lemmas.Map.Keys.{IsDistinct-head, IsDistinct-tail, IsDistinct-IsPermutation}
use Rattle.iddqd.specs.LiveItems.{item_at, KeepsOtherItems}
use Rattle.iddqd.specs.Store.{Store}
use Rattle.iddqd.proofs.StoreLemmas.{contains_head, contains_tail, contains_none}
use Rattle.iddqd_by_order.specs.Ordered.{Holds}
use Rattle.iddqd_ord_map.specs.Pairs.{items_of_slots, AreThere}

insert_end : (xs : List ℕ) (x : ℕ) → insert xs (length xs) x ≡ xs ++ x ∷ []
insert_end [] x = refl
insert_end (y ∷ ys) x = ap (λ l. y ∷ l) (insert_end ys x)

-- the first goes to the end
moved_to_end : (xs : List ℕ) (x : ℕ) → IsPermutation (x ∷ xs) (xs ++ x ∷ [])
moved_to_end xs x = subst (IsPermutation (x ∷ xs)) (insert_end xs x) (IsPermutation-insert xs (length xs) x)

module _ {T : Type 0} where
  -- slots that have the same at each of these indexes
  same_items :
      (old new : List (Option T)) (xs : List ℕ)
      → ((j : ℕ) → Contains xs j → item_at new j ≡ item_at old j)
      → items_of_slots new xs ≡ items_of_slots old xs
  same_items old new [] same = refl
  same_items old new (x ∷ xs) same =
      let rest = same_items old new xs (λ j here. same j (contains_tail x j xs here)) in
      ap (λ o. cons_option o (items_of_slots new xs)) (same x (contains_head x xs))
      ∙ ap (λ l. cons_option (item_at old x) l) rest

  pub AreThere-none : (slots : List (Option T)) (left : List ℕ) → left ≡ [] → AreThere slots left
  unfolding IsDistinct
  AreThere-none slots left is =
      subst (AreThere slots) (sym is) (record { each = λ ix here. absurd (contains_none ix here); once = tt })

  pub length-items_of_slots :
      (slots : List (Option T)) (xs : List ℕ)
      → ((ix : ℕ) → Contains xs ix → IsSome (item_at slots ix))
      → length (items_of_slots slots xs) ≡ length xs
  length-items_of_slots slots [] each = refl
  length-items_of_slots slots (x ∷ xs) each =
      let rest = length-items_of_slots slots xs (λ j here. each j (contains_tail x j xs here)) in
      elim (item_at slots x) as (λ o. IsSome o → length (cons_option o (items_of_slots slots xs)) ≡ length (x ∷ xs)) [
        | Some item ↦ λ _. omega (arith, rest)
        | None ↦ λ live. absurd (cc)
      ] (each x (contains_head x xs))

  -- the item at an index was taken: what is left, and the items there
  pub record Took (old new : List (Option T)) (left : List ℕ) : Type 0 where
    pub there : AreThere new left
    pub same : items_of_slots new left ≡ items_of_slots old left

  module _ (old new : List (Option T)) (ix : ℕ) (left : List ℕ) (others : KeepsOtherItems ix old new) where
    Took-first : AreThere old (ix ∷ left) → Took old new left
    Took-first o =
        let apart = All-from_recursion (λ y. nat_eq ix y ≡ false) left (IsDistinct-head nat_eq ix left o.once) in
        let other : (j : ℕ) → Contains left j → j ≢ ix =
        λ j here same. eqb-false ix j (All-contains (λ y. nat_eq ix y ≡ false) left j apart here) (sym same) in
        let kept : (j : ℕ) → Contains left j → item_at new j ≡ item_at old j = λ j here. others j (other j here) in
        record {
          there = record {
            each = λ j here. rw (kept j here) (o.each j (contains_tail ix j left here));
            once = IsDistinct-tail nat_eq ix left o.once;
          };
          same = same_items old new left kept;
        }

    pub Took-front : (all : List ℕ) → all ≡ ix ∷ left → AreThere old all → Took old new left
    Took-front all is o = Took-first (subst (AreThere old) is o)

    pub Took-back : (all : List ℕ) → all ≡ left ++ ix ∷ [] → AreThere old all → Took old new left
    Took-back all is o =
        let moved = moved_to_end left ix in
        let was = subst (AreThere old) is o in
        Took-first (record {
          each = λ j here. was.each j (Contains-permutation (ix ∷ left) (left ++ ix ∷ []) j moved here);
          once =
              IsDistinct-IsPermutation nat_eq nat_eq_equiv.symm (left ++ ix ∷ []) (ix ∷ left)
              (IsPermutation-sym (ix ∷ left) (left ++ ix ∷ []) moved) was.once;
        })

    pub items_of_slots-front :
        (all : List ℕ) (item : T)
        → all ≡ ix ∷ left
        → AreThere old all
        → item_at old ix ≡ Some item
        → items_of_slots old all ≡ item ∷ items_of_slots new left
    items_of_slots-front all item is o live =
        ap (items_of_slots old) is ∙ ap (λ o. cons_option o (items_of_slots old left)) live
        ∙ ap (λ l. item ∷ l) (sym (Took-front all is o).same)

    pub items_of_slots-back :
        (all : List ℕ) (item : T)
        → all ≡ left ++ ix ∷ []
        → AreThere old all
        → item_at old ix ≡ Some item
        → items_of_slots old all ≡ items_of_slots new left ++ item ∷ []
    items_of_slots-back all item is o live =
        let one : items_of_slots old (ix ∷ []) ≡ item ∷ [] = ap (λ o. cons_option o []) live in
        ap (items_of_slots old) is ∙ filter_map-append (item_at old) left (ix ∷ [])
        ∙ ap (λ l. items_of_slots old left ++ l) one ∙ ap (λ l. l ++ item ∷ []) (sym (Took-back all is o).same)

  -- so fewer are left
  pub items_of_slots-fewer :
      (all : List T) (left : List T) (item : T)
      → all ≡ left ++ item ∷ []
      → length left < length all
  items_of_slots-fewer all left item is = omega (arith, ap length is, length_push left item)

  pub there_front :
      (old : List (Option T)) (all left : List ℕ) (ix : ℕ)
      → all ≡ ix ∷ left
      → AreThere old all
      → IsSome (item_at old ix)
  there_front old all left ix is o = o.each ix (subst (λ xs. Contains xs ix) (sym is) (contains_head ix left))

  pub there_back :
      (old : List (Option T)) (all left : List ℕ) (ix : ℕ)
      → all ≡ left ++ ix ∷ []
      → AreThere old all
      → IsSome (item_at old ix)
  there_back old all left ix is o =
      let last = Contains-permutation (ix ∷ left) (left ++ ix ∷ []) ix (moved_to_end left ix) (contains_head ix left) in
      o.each ix (subst (λ xs. Contains xs ix) (sym is) last)

  -- all that a table lists is there
  pub AreThere-listed : (s : Store T) (order : List ℕ) → Holds s order → AreThere s.items order
  AreThere-listed s order held = record { each = λ ix here. (held.each ix).0 here; once = held.once }
