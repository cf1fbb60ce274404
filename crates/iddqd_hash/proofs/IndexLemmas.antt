-- What a bag of hashes and indexes says of the map: its pairs and indexes, which indexes it has, what a retain leaves,
-- and what a look-up finds.
use Rattle.std.proofs.Common.{eqb-true, eq-eqb, ◌≡◌, ◌==◌, ℕ, Bool, true, false, cond, List, [], ◌∷◌, map, filter, Option, Some, None, is_some, refl, sym, ap, subst, ◌∙◌}
use mathlib.Core.Bool.{◌||◌}
use Rattle.std.specs.List.{AllByRecursion, FoldsTo, list_any}
use Rattle.std.specs.List.Sorted.{IsPermutation}
use Rattle.std.specs.Ordering.{nat_cmp, eq_by_cmp}
use Rattle.std.specs.FinMap as finite
use Rattle.std.specs.FinMap.Entries.{find}
use Rattle.std.specs.Cmp.{nat_cmp_total, eq_by_cmp_equiv}
use Rattle.std.proofs.lemmas.List.Sorted.{IsPermutation-trans, IsPermutation-sym, IsPermutation-map, list_any-IsPermutation}
use Rattle.std.proofs.lemmas.Map.Keys.{IsDistinct-head, IsDistinct-tail, IsDistinct-cons}
use Rattle.iddqd_hash.specs.Asks.{FindsPlace, RetainsPairs}
use Rattle.iddqd_hash.specs.HashTable.{values}
use Rattle.iddqd_hash.specs.MapHashTable.{swapped, filed_from, indexes_of, pairs_of, IsDistinctlyFiled}
use Rattle.iddqd_hash.proofs.MapHashTableLemmas.{filed_entries, swapped_keys, untied, distinct_moved, LooksUp-follows}

swapped_twice : (es : List (ℕ × ℕ)) → map swapped (map swapped es) ≡ es
swapped_twice [] = refl
swapped_twice (e ∷ es) = ap (λ xs. e ∷ xs) (swapped_twice es)

pub filed_pairs : (es : List (ℕ × ℕ)) → IsDistinctlyFiled es → IsPermutation es (pairs_of (filed_from es))
filed_pairs es apart =
    subst (λ xs. IsPermutation xs (pairs_of (filed_from es))) (swapped_twice es) (IsPermutation-map swapped _ _ (filed_entries es apart))

pub filed_indexes : (es : List (ℕ × ℕ)) → IsDistinctlyFiled es → IsPermutation (values es) (indexes_of (filed_from es))
filed_indexes es apart =
    subst (λ xs. IsPermutation xs (indexes_of (filed_from es))) (swapped_keys es) (IsPermutation-map (λ (e : ℕ × ℕ). e.0) _ _ (filed_entries es apart))

-- an index is in the list if and only if the map has it
same_test : (ix at : ℕ) → (at == ix) ≡ eq_by_cmp nat_cmp ix at
same_test ix at =
    elim (at == ix) as (λ b. (at == ix) ≡ b → b ≡ eq_by_cmp nat_cmp ix at) [
      | true ↦ λ same. let is : at ≡ ix = eqb-true at ix same in rw is (sym ((eq_by_cmp_equiv nat_cmp_total).refl ix))
      | false ↦ λ other. sym (untied ix at (λ same. let is : true ≡ false = sym (eq-eqb at ix (sym same)) ∙ other in absurd (cc)))
    ] refl

either_is_some : (b : Bool) (hash : ℕ) (rest : Option ℕ) → (b || is_some rest) ≡ is_some (cond b (Some hash) rest)
either_is_some true hash rest = refl
either_is_some false hash rest = refl

found_in :
    (ix : ℕ) (es : List (ℕ × ℕ))
    → list_any (λ at. at == ix) (values es) ≡ is_some (find nat_cmp ix (map swapped es))
found_in ix [] = refl
found_in ix (e ∷ es) =
    ap (λ b. b || list_any (λ at. at == ix) (values es)) (same_test ix e.1)
    ∙ ap (λ b. eq_by_cmp nat_cmp ix e.1 || b) (found_in ix es)
    ∙ either_is_some (eq_by_cmp nat_cmp ix e.1) e.0 (find nat_cmp ix (map swapped es))

pub contains_is :
    (ix : ℕ) (es : List (ℕ × ℕ)) (walk : List ℕ)
    → IsPermutation (values es) walk
    → list_any (λ at. at == ix) walk ≡ is_some (finite.get (filed_from es) ix)
contains_is ix es walk moved =
    sym (list_any-IsPermutation (λ at. at == ix) (values es) walk moved) ∙ found_in ix es
    ∙ ap is_some (sym (finite.get-from_entries nat_cmp_total (map swapped es) ix))

-- A retain is one by other questions too, where each question of the first is one of the second, and of the same pairs
-- in another order.
module _
    {F G : Type 0} (ask : F → ℕ → Bool → F → Type 0) (asks : G → ℕ → Bool → G → Type 0) (R : F → G → Type 0)
    (follows : (f : F) (k : G) (x : ℕ) (b : Bool) (f' : F) → R f k → ask f x b f' → (k' : G) × asks k x b k' × R f' k')
  where
    asked_follows :
        (f : F) (k : G) (list : List ((ℕ × ℕ) × Bool)) (last : F)
        → R f k
        → FoldsTo (λ p a q. ask p a.0.1 a.1 q) f list last
        → (end : G) × FoldsTo (λ p a q. asks p a.0.1 a.1 q) k list end
    asked_follows f k [] last r same = (k, refl)
    asked_follows f k (a ∷ list) last r calls =
        let one = follows f k a.0.1 a.1 calls.0 r calls.1 in
        let rest = asked_follows calls.0 one.0 list last one.2 calls.2 in
        (rest.0, (one.0, one.1, rest.1))

    pub RetainsPairs-follows :
        (f : F) (k : G) (old new olds news : List (ℕ × ℕ))
        → R f k
        → IsPermutation old olds
        → IsPermutation new news
        → RetainsPairs ask f old new
        → RetainsPairs asks k olds news
    RetainsPairs-follows f k old new olds news r moved left retained =
        let keeps = retained.kept in
        let asked = asked_follows f k keeps.asks retained.last r keeps.were_asked in
        record {
          last = asked.0;
          kept = record {
            asks = keeps.asks;
            each_once = IsPermutation-trans _ _ _ (IsPermutation-sym _ _ moved) keeps.each_once;
            were_asked = asked.1;
            kept = IsPermutation-trans _ _ _ keeps.kept left;
          };
        }

    pub FindsPlace-follows :
        (f : F) (k : G) (hash : ℕ) (xs ys : List ℕ) (pair_in : ℕ → Option (ℕ × ℕ)) (r : Option ℕ)
        → R f k
        → IsPermutation xs ys
        → FindsPlace ask f hash xs pair_in r
        → FindsPlace asks k hash ys pair_in r
    FindsPlace-follows f k hash xs ys pair_in None r moved miss =
        LooksUp-follows ask asks R follows f k xs ys None r moved miss
    FindsPlace-follows f k hash xs ys pair_in (Some place) r moved found =
        record {
          value = found.value;
          is_pair = found.is_pair;
          hit = LooksUp-follows ask asks R follows f k xs ys (Some found.value) r moved found.hit;
        }

-- if no index stands twice among those asked about, none does among those that passed
apart_passed :
    (k : ℕ) (asks : List ((ℕ × ℕ) × Bool))
    → AllByRecursion (λ y. eq_by_cmp nat_cmp k y ≡ false) (values (map (λ a. a.0) asks))
    → AllByRecursion (λ y. eq_by_cmp nat_cmp k y ≡ false) (values (map (λ a. a.0) (filter (λ a. a.1) asks)))
apart_passed k [] apart = tt
apart_passed k (a ∷ asks) apart =
    let passed = filter (λ (a : (ℕ × ℕ) × Bool). a.1) asks in
    elim a.1 as (λ b. AllByRecursion (λ y. eq_by_cmp nat_cmp k y ≡ false) (values (map (λ (a : (ℕ × ℕ) × Bool). a.0) (cond b (a ∷ passed) passed)))) [
      | true ↦ (apart.0, apart_passed k asks apart.1)
      | false ↦ apart_passed k asks apart.1
    ]

distinct_passed :
    (asks : List ((ℕ × ℕ) × Bool))
    → IsDistinctlyFiled (map (λ a. a.0) asks)
    → IsDistinctlyFiled (map (λ a. a.0) (filter (λ a. a.1) asks))
distinct_passed [] apart = apart
distinct_passed (a ∷ asks) apart =
    let passed = filter (λ (a : (ℕ × ℕ) × Bool). a.1) asks in
    let rest = distinct_passed asks (IsDistinct-tail _ _ _ apart) in
    elim a.1 as (λ b. IsDistinctlyFiled (map (λ (a : (ℕ × ℕ) × Bool). a.0) (cond b (a ∷ passed) passed))) [
      | true ↦ IsDistinct-cons _ a.0.1 (values (map (λ (a : (ℕ × ℕ) × Bool). a.0) passed)) (apart_passed a.0.1 asks (IsDistinct-head _ _ _ apart)) rest
      | false ↦ rest
    ]

pub distinct_retained :
    {F : Type 0} (ask : F → ℕ → Bool → F → Type 0) (f : F) (old new : List (ℕ × ℕ))
    → RetainsPairs ask f old new
    → IsDistinctlyFiled old
    → IsDistinctlyFiled new
distinct_retained ask f old new retained apart =
    let keeps = retained.kept in
    distinct_moved _ _ keeps.kept (distinct_passed keeps.asks (distinct_moved _ _ keeps.each_once apart))
