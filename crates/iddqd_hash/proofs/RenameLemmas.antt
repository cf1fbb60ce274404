-- What becomes of the map of a bag if each index gets a new name.
use Rattle.std.proofs.Common.{◌≡◌, ◌∙◌, ◌↔◌, ℕ, ◌<◌, true, false, List, [], ◌∷◌, map, length, get_or, Some, None, IsSome, refl, sym, ap, subst, arith, Contains}
use Rattle.std.specs.List.{AllByRecursion, IsDistinct}
use Rattle.std.specs.List.Sorted.{IsPermutation}
use Rattle.std.specs.Ordering.{nat_cmp, eq_by_cmp}
use Rattle.std.specs.Cmp.{nat_cmp_total, eq_by_cmp_equiv}
use Rattle.std.specs.FinMap as finite
use Rattle.std.specs.FinMap.{FinMap}
use Rattle.std.proofs.lemmas.List.{length-map, get_or-map}
use Rattle.std.proofs.lemmas.List.Elements.{Contains-get_or, Contains-append_right}
use Rattle.std.proofs.lemmas.List.Sorted.{IsPermutation-sym, Contains-permutation}
use Rattle.std.proofs.lemmas.Map.Keys.{IsDistinct-head, IsDistinct-tail, IsDistinct-cons}
use Rattle.iddqd_hash.specs.HashTable.{Table, entries, values, under, Rewrites}
use Rattle.iddqd_hash.specs.MapHashTable.{filed, filed_from, HaveOwnNames, IsDistinctlyFiled, Renames}
use Rattle.iddqd_hash.proofs.UnderLemmas.{Contains-read, Contains-under}
use Rattle.iddqd_hash.proofs.RewriteLemmas.{Rewrites-mapped}
use Rattle.iddqd_hash.proofs.MapHashTableLemmas.{under_filed, untied, distinct_moved}
use Rattle.iddqd_hash.proofs.FiledLemmas.{filed_from_under, under_from_filed}

module _ {X Y : Type 0} (f : X → Y) (xs : List X) where
  Contains-map : (x : X) → Contains xs x → Contains (map f xs) (f x)
  Contains-map x here = (here.0, omega (arith, length-map xs f), get_or-map f xs here.0 x (f x) here.1 ∙ ap f here.2)

  Contains-from_map : (d : X) (y : Y) → Contains (map f xs) y → (x : X) × Contains xs x × (f x ≡ y)
  Contains-from_map d y here =
      let within : here.0 < length xs = omega (arith, length-map xs f) in
      (get_or xs here.0 d, Contains-get_or xs here.0 d within, sym (get_or-map f xs here.0 d y within) ∙ here.2)

-- the pairs of a bag in which no index stands twice are the entries of its map
module _ (es : List (ℕ × ℕ)) (apart : IsDistinctlyFiled es) where
  filed_from_pair : (hash ix : ℕ) → Contains es (hash, ix) → finite.get (filed_from es) ix ≡ Some hash
  filed_from_pair hash ix here =
      let under_hash : Contains (under hash es) ix = Contains-read hash es here.0 (hash, ix) here.1 (sym here.2) refl in
      filed_from_under (filed_from es) hash ix (Contains-permutation _ _ ix (under_filed hash es apart) under_hash)

  pair_from_filed : (hash ix : ℕ) → finite.get (filed_from es) ix ≡ Some hash → Contains es (hash, ix)
  pair_from_filed hash ix is =
      let under_hash : Contains (under hash es) ix =
      Contains-permutation _ _ ix (IsPermutation-sym _ _ (under_filed hash es apart)) (under_from_filed (filed_from es) hash ix is) in
      Contains-under hash es ix under_hash

  -- an index of the bag is filed
  pub filed_from_value : (ix : ℕ) → Contains (values es) ix → IsSome (finite.get (filed_from es) ix)
  filed_from_value ix here =
      let found = Contains-from_map (λ (e : ℕ × ℕ). e.1) es (0, 0) ix here in
      let at : finite.get (filed_from es) found.0.1 ≡ Some found.0.0 = filed_from_pair found.0.0 found.0.1 found.1 in
      let same : finite.get (filed_from es) ix ≡ Some found.0.0 =
      subst (λ x. finite.get (filed_from es) x ≡ Some found.0.0) found.2 at in
      rw same refl

-- each value of a table is filed, also where the table is given by another name
pub is_filed :
    (t s : Table ℕ) (ix : ℕ)
    → t ≡ s
    → IsDistinctlyFiled (entries s)
    → Contains (values (entries s)) ix
    → IsSome (finite.get (filed t) ix)
unfolding filed
is_filed t s ix is apart here = rw is (filed_from_value _ apart ix here)

module _ (name : ℕ → ℕ) where
  abbrev renamed : ℕ × ℕ → ℕ × ℕ
  renamed e = (e.0, name e.1)

  renamed_values : (es : List (ℕ × ℕ)) → values (map renamed es) ≡ map name (values es)
  renamed_values [] = refl
  renamed_values (e ∷ es) = ap (λ xs. name e.1 ∷ xs) (renamed_values es)

  -- the new names of other indexes are other names
  names_apart :
      (x : ℕ) (xs : List ℕ)
      → ((y : ℕ) → Contains xs y → name x ≡ name y → x ≡ y)
      → AllByRecursion (λ y. eq_by_cmp nat_cmp x y ≡ false) xs
      → AllByRecursion (λ y. eq_by_cmp nat_cmp (name x) y ≡ false) (map name xs)
  names_apart x [] one apart = tt
  names_apart x (y ∷ ys) one apart =
      let other : name x ≡ name y → ⊥ = λ same.
      let is : x ≡ y = one y (0, omega arith, refl) same in
      let tie : eq_by_cmp nat_cmp x y ≡ true =
      subst (λ z. eq_by_cmp nat_cmp x z ≡ true) is ((eq_by_cmp_equiv nat_cmp_total).refl x) in
      let never : false ≡ true = sym apart.0 ∙ tie in cc in
      (untied (name x) (name y) other, names_apart x ys (λ z here. one z (Contains-append_right (y ∷ []) ys z here)) apart.1)

  names_distinct :
      (xs : List ℕ)
      → ((i j : ℕ) → Contains xs i → Contains xs j → name i ≡ name j → i ≡ j)
      → IsDistinct (eq_by_cmp nat_cmp) xs
      → IsDistinct (eq_by_cmp nat_cmp) (map name xs)
  names_distinct [] one apart = apart
  names_distinct (x ∷ xs) one apart =
      let behind = λ (z : ℕ) (here : Contains xs z). Contains-append_right (x ∷ []) xs z here in
      IsDistinct-cons _ (name x) (map name xs) (names_apart x xs (λ y here. one x y (0, omega arith, refl) (behind y here)) (IsDistinct-head _ _ _ apart))
      (names_distinct xs (λ i j here there. one i j (behind i here) (behind j there)) (IsDistinct-tail _ _ _ apart))

  -- if each value becomes its name, and no two indexes get the same name, the map is renamed
  module _
      (gives : ℕ → ℕ → Type 0) (says : (v w : ℕ) → gives v w → w ≡ name v) (old new : List (ℕ × ℕ))
      (apart : IsDistinctlyFiled old)
      (one : HaveOwnNames name (filed_from old))
      (rewrites : Rewrites gives old new)
    where
      all_renamed : IsPermutation (map renamed old) new
      all_renamed = Rewrites-mapped gives name says old new rewrites

      pub distinct_renamed : IsDistinctlyFiled new
      distinct_renamed =
          let one_value =
          λ (i j : ℕ) (here : Contains (values old) i) (there : Contains (values old) j). one i j (filed_from_value old apart i here) (filed_from_value old apart j there) in
          distinct_moved _ _ all_renamed (rw (renamed_values old) (names_distinct (values old) one_value apart))

      pub Renames-from_rewrites : Renames name (filed_from old) (filed_from new)
      Renames-from_rewrites =
          record {
            each = λ ix hash is.
                let here = Contains-map renamed old (hash, ix) (pair_from_filed old apart hash ix is) in
                filed_from_pair new distinct_renamed hash (name ix) (Contains-permutation _ _ _ all_renamed here);
            no_other = λ at hash is.
                let here =
                Contains-permutation _ _ _ (IsPermutation-sym _ _ all_renamed) (pair_from_filed new distinct_renamed hash at is) in
                let found = Contains-from_map renamed old (0, 0) (hash, at) here in
                let stood = filed_from_pair old apart found.0.0 found.0.1 found.1 in
                (found.0.1, ap (λ p. p.1) found.2, stood ∙ ap (λ p. Some p.0) found.2);
          }

-- what a renamed map says to a caller
module _ (name : ℕ → ℕ) (old : FinMap nat_cmp ℕ) where
  get_some : (m : FinMap nat_cmp ℕ) (ix : ℕ) → IsSome (finite.get m ix) → (hash : ℕ) × (finite.get m ix ≡ Some hash)
  get_some m ix here =
      elim (finite.get m ix) as (λ o. IsSome o → (hash : ℕ) × (o ≡ Some hash)) [
        | Some hash ↦ λ _. (hash, refl)
        | None ↦ λ h. absurd (let never : false ≡ true = h in cc)
      ] here

  -- the indexes of a renamed map are the new names of the old ones
  pub renamed_iff :
      (new : FinMap nat_cmp ℕ)
      → Renames name old new
      → (at : ℕ)
      → IsSome (finite.get new at) ↔ ((ix : ℕ) × (name ix ≡ at) × IsSome (finite.get old ix))
  renamed_iff new renames at = (to, from)
    where
      to : IsSome (finite.get new at) → (ix : ℕ) × (name ix ≡ at) × IsSome (finite.get old ix)
      to here =
          let found = get_some new at here in
          let was = renames.no_other at found.0 found.1 in
          (was.0, was.1, rw was.2 refl)

      from : (ix : ℕ) × (name ix ≡ at) × IsSome (finite.get old ix) → IsSome (finite.get new at)
      from (ix, is, here) =
          let found = get_some old ix here in
          let now : finite.get new at ≡ Some found.0 =
          subst (λ x. finite.get new x ≡ Some found.0) is (renames.each ix found.0 found.1) in
          rw now refl

  -- a map whose indexes keep their names is a renaming of itself
  pub Renames-kept : ((ix : ℕ) → IsSome (finite.get old ix) → name ix ≡ ix) → Renames name old old
  Renames-kept same =
      record {
        each = λ ix hash is. subst (λ x. finite.get old x ≡ Some hash) (sym (same ix (rw is refl))) is;
        no_other = λ at hash is. (at, same at (rw is refl), is);
      }

  -- one renaming of a map gives one map
  pub same_renamed : (m n : FinMap nat_cmp ℕ) → Renames name old m → Renames name old n → m ≡ n
  same_renamed m n first second =
      finite.same_map nat_cmp_total finite.nat_cmp-IsAntisymmetric m n at
    where
      follows :
          (l r : FinMap nat_cmp ℕ)
          → Renames name old l
          → Renames name old r
          → (q hash : ℕ)
          → finite.get l q ≡ Some hash
          → finite.get r q ≡ Some hash
      follows l r left right q hash is =
          let was = left.no_other q hash is in
          subst (λ x. finite.get r x ≡ Some hash) was.1 (right.each was.0 hash was.2)

      at : (q : ℕ) → finite.get m q ≡ finite.get n q
      at q =
          elim (finite.get m q) as (λ o. finite.get m q ≡ o → o ≡ finite.get n q) [
            | Some hash ↦ λ is. sym (follows m n first second q hash is)
            | None ↦ λ is.
                elim (finite.get n q) as (λ o. finite.get n q ≡ o → None ≡ o) [
                  | Some hash ↦ λ there. sym is ∙ follows n m second first q hash there
                  | None ↦ λ _. refl
                ] refl
          ] refl
