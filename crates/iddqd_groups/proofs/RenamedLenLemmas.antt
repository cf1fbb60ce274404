-- A map whose indexes have new names, no two the same, has as many indexes as before.
use Rattle.std.proofs.Common.{◌≡◌, ◌≤◌, ◌<◌, ◌∙◌, ap, get_or, ℕ, true, false, nat_eq, List, [], ◌∷◌, map, length, IsSome, Contains, sym, subst, arith, eq-eqb}
use Rattle.std.specs.Cmp.{nat_eq_equiv}
use Rattle.std.specs.List.{AllByRecursion, IsDistinct}
use Rattle.std.specs.Ordering.{nat_cmp}
use Rattle.std.specs.FinMap as finite
use Rattle.std.specs.FinMap.{FinMap}
use Rattle.std.proofs.lemmas.Bool.Decides.{Decides-eqb}
use Rattle.std.proofs.lemmas.List.{length-map, get_or-map}
use Rattle.std.proofs.lemmas.List.Elements.{Contains-get_or}
use Rattle.std.proofs.lemmas.Map.Keys.{IsDistinct-cons, IsDistinct-head, IsDistinct-tail}
use Rattle.std.proofs.lemmas.Map.Made.{is_member-Decides, length-le_from_is_member}
use Rattle.iddqd.proofs.StoreLemmas.{contains_head, contains_tail, differs}
use Rattle.iddqd_hash.specs.MapHashTable.{indexes_of, HaveOwnNames, Renames}
use Rattle.iddqd_hash.proofs.MemberLemmas.{filed_hash, filed_at}
use Rattle.iddqd_by_hash.proofs.HashedCountLemmas.{listed_filed, sorted_apart}

module _ (f : ℕ → ℕ) (xs : List ℕ) where
  Contains-map : (x : ℕ) → Contains xs x → Contains (map f xs) (f x)
  Contains-map x here = (here.0, omega (arith, length-map xs f), get_or-map f xs here.0 x (f x) here.1 ∙ ap f here.2)

  Contains-from_map : (y : ℕ) → Contains (map f xs) y → (x : ℕ) × Contains xs x × (f x ≡ y)
  Contains-from_map y here =
      let within : here.0 < length xs = omega (arith, length-map xs f) in
      (get_or xs here.0 0, Contains-get_or xs here.0 0 within, sym (get_or-map f xs here.0 0 y within) ∙ here.2)

-- distinct numbers that another list has are no more than its members
pub length_within :
    (xs ys : List ℕ)
    → IsDistinct nat_eq xs
    → ((x : ℕ) → Contains xs x → Contains ys x)
    → length xs ≤ length ys
length_within xs ys apart within =
    length-le_from_is_member nat_eq_equiv xs ys apart
    (λ x member. (is_member-Decides Decides-eqb ys x).1 (within x ((is_member-Decides Decides-eqb xs x).0 member)))

module _ (name : ℕ → ℕ) where
  names_apart :
      (x : ℕ) (xs : List ℕ)
      → ((y : ℕ) → Contains xs y → name x ≡ name y → x ≡ y)
      → AllByRecursion (λ y. nat_eq x y ≡ false) xs
      → AllByRecursion (λ y. nat_eq (name x) y ≡ false) (map name xs)
  names_apart x [] one apart = tt
  names_apart x (y ∷ ys) one apart =
      let other : name x ≡ name y → ⊥ =
      λ same. (let never : true ≡ false = sym (eq-eqb x y (one y (contains_head y ys) same)) ∙ apart.0 in cc) in
      (differs (name x) (name y) other, names_apart x ys (λ z here. one z (contains_tail y z ys here)) apart.1)

  names_distinct :
      (xs : List ℕ)
      → ((i j : ℕ) → Contains xs i → Contains xs j → name i ≡ name j → i ≡ j)
      → IsDistinct nat_eq xs
      → IsDistinct nat_eq (map name xs)
  names_distinct [] one apart = apart
  names_distinct (x ∷ xs) one apart =
      IsDistinct-cons nat_eq (name x) (map name xs)
      (names_apart x xs (λ y here. one x y (contains_head x xs) (contains_tail x y xs here))
      (IsDistinct-head nat_eq x xs apart))
      (names_distinct xs (λ i j here there. one i j (contains_tail x i xs here) (contains_tail x j xs there))
      (IsDistinct-tail nat_eq x xs apart))

  pub len-renamed :
      (old new : FinMap nat_cmp ℕ)
      → Renames name old new
      → HaveOwnNames name old
      → finite.len new ≡ finite.len old
  len-renamed old new named one =
      let was = indexes_of old in
      let is = indexes_of new in
      let old_apart = sorted_apart (finite.entries old) (finite.entries_sorted old) in
      let new_apart = sorted_apart (finite.entries new) (finite.entries_sorted new) in
      let names_apart =
      names_distinct was (λ i j here there. one i j ((listed_filed old i).0 here) ((listed_filed old j).0 there))
      old_apart in
      let fewer = length_within is (map name was) new_apart new_named in
      let more = length_within (map name was) is names_apart named_new in
      omega (
        arith,
        fewer,
        more,
        length-map was name,
        finite.len-entries old,
        finite.len-entries new,
        length-map (finite.entries old) (λ (e : ℕ × ℕ). e.0),
        length-map (finite.entries new) (λ (e : ℕ × ℕ). e.0),
      )
    where
      new_named : (at : ℕ) → Contains (indexes_of new) at → Contains (map name (indexes_of old)) at
      new_named at here =
          let (hash, filed) = filed_hash _ ((listed_filed new at).0 here) in
          let (ix, same, stood) = named.no_other at hash filed in
          subst (Contains (map name (indexes_of old))) same
          (Contains-map name (indexes_of old) ix ((listed_filed old ix).1 (filed_at _ hash stood)))

      named_new : (at : ℕ) → Contains (map name (indexes_of old)) at → Contains (indexes_of new) at
      named_new at here =
          let (ix, there, same) = Contains-from_map name (indexes_of old) at here in
          let (hash, filed) = filed_hash _ ((listed_filed old ix).0 there) in
          (listed_filed new at).1 (subst (λ k. IsSome (finite.get new k)) same
          (filed_at _ hash (named.each ix hash filed)))
