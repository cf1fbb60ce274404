-- How a bag of hashes and indexes makes a map, and what a look-up in the one says of the other.
use Rattle.std.proofs.Common.{not, eqb-true, eq-eqb, ◌≡◌, ◌==◌, ◌+◌, ◌-◌, ◌<◌, ℕ, Bool, true, false, cond, List, [], ◌∷◌, map, filter, length, Option, Some, None, IsSome, refl, sym, ap, subst, ◌∙◌, arith}
use Rattle.std.specs.List.{IsDistinct, AllByRecursion}
use Rattle.std.specs.List.Sorted.{IsPermutation}
use Rattle.std.specs.Ordering.{nat_cmp, eq_by_cmp, is_eq}
use Rattle.std.specs.declared.cmp.Ordering.{Ordering}
use Rattle.std.specs.declared.cmp.Ordering.TheVariants.{Less, Equal, Greater}
use Rattle.std.specs.FinMap as finite
use Rattle.std.specs.FinMap.{FinMap}
use Rattle.std.specs.FinMap.Entries.{put, find}
use Rattle.std.specs.Cmp.{nat_cmp_total, IsTotalOrder, eq_by_cmp_equiv}
use Rattle.std.proofs.lemmas.List.Sorted.{length_permutation, IsPermutation-refl, IsPermutation-trans, IsPermutation-sym, IsPermutation-cons, IsPermutation-map}
use Rattle.std.proofs.lemmas.List.{length-map}
use Rattle.std.proofs.lemmas.Map.Keys.{IsDistinct-head, IsDistinct-tail, IsDistinct-cons, IsDistinct-IsPermutation}
use Rattle.iddqd_hash.proofs.PermutationLemmas.{along_permutation, IsPermutation-turn, IsPermutation-filter}
use Rattle.iddqd_hash.specs.Asks.{AllRefused, LooksUp}
use Rattle.iddqd_hash.specs.HashTable.{under, values}
use Rattle.iddqd_hash.specs.MapHashTable.{swapped, filed_from, IsDistinctlyFiled, indexes_under}

module _ {K X : Type 0} (R : K → K → Ordering) where
  put_new : (k : K) (v : X) (es : List (K × X)) → find R k es ≡ None → IsPermutation ((k, v) ∷ es) (put R k v es)
  put_new k v [] absent = IsPermutation-refl _
  put_new k v (e ∷ es) absent =
      elim (R k e.0) as (λ r. R k e.0 ≡ r → IsPermutation ((k, v) ∷ e ∷ es) (put R k v (e ∷ es))) [
        | Less ↦ λ is. rw is (IsPermutation-refl _)
        | Equal ↦ λ is. absurd (let h = rw is at absent in cc)
        | Greater ↦ λ is. rw is (IsPermutation-trans _ _ _ (IsPermutation-turn (k, v) e es) (IsPermutation-cons e _ _ (put_new k v es (rw is at absent))))
      ] refl

  find_absent :
      (k : K) (es : List (K × X))
      → AllByRecursion (λ y. eq_by_cmp R k y ≡ false) (map (λ e. e.0) es)
      → find R k es ≡ None
  find_absent k [] apart = refl
  find_absent k (e ∷ es) apart = rw apart.0 (find_absent k es apart.1)

no_entries : {A : Type 0} (es : List A) → length es ≡ 0 → es ≡ []
no_entries [] e = refl
no_entries (x ∷ es) e = absurd (omega arith)

module _ {K X : Type 0} {R : K → K → Ordering} (o : IsTotalOrder R) where
  pub entries-from_entries :
      (es : List (K × X))
      → IsDistinct (eq_by_cmp R) (map (λ e. e.0) es)
      → IsPermutation es (finite.entries (finite.from_entries {R = R} es))
  entries-from_entries [] apart =
      rw (no_entries (finite.entries (finite.empty {X = X} {R = R})) (sym (finite.len-entries _) ∙ finite.len-empty R X)) (IsPermutation-refl [])
  entries-from_entries (e ∷ es) apart =
      let rest = finite.from_entries {R = R} es in
      let new : find R e.0 (finite.entries rest) ≡ None =
      sym (finite.get-entries rest e.0) ∙ finite.get-from_entries o es e.0
      ∙ find_absent R e.0 es (IsDistinct-head _ _ _ apart) in
      rw (finite.entries-insert o) (IsPermutation-trans _ _ _ (IsPermutation-cons e _ _ (entries-from_entries es (IsDistinct-tail _ _ _ apart))) (put_new R e.0 e.1 _ new))

swapped_under :
    (h : ℕ) (es : List (ℕ × ℕ))
    → map (λ (e : ℕ × ℕ). e.0) (filter (λ (e : ℕ × ℕ). e.1 == h) (map swapped es)) ≡ under h es
swapped_under h [] = refl
swapped_under h (e ∷ es) =
    elim (e.0 == h) as (λ b. map (λ (e : ℕ × ℕ). e.0) (cond b ((e.1, e.0) ∷ filter (λ (e : ℕ × ℕ). e.1 == h) (map swapped es)) (filter (λ (e : ℕ × ℕ). e.1 == h) (map swapped es))) ≡ map (λ (e : ℕ × ℕ). e.1) (cond b (e ∷ filter (λ (e : ℕ × ℕ). e.0 == h) es) (filter (λ (e : ℕ × ℕ). e.0 == h) es))) [
      | true ↦ ap (λ xs. e.1 ∷ xs) (swapped_under h es)
      | false ↦ swapped_under h es
    ]

pub swapped_keys : (es : List (ℕ × ℕ)) → map (λ (e : ℕ × ℕ). e.0) (map swapped es) ≡ values es
swapped_keys [] = refl
swapped_keys (e ∷ es) = ap (λ xs. e.1 ∷ xs) (swapped_keys es)

-- the entries of the map are those of the bag
pub filed_entries :
    (es : List (ℕ × ℕ))
    → IsDistinctlyFiled es
    → IsPermutation (map swapped es) (finite.entries (filed_from es))
filed_entries es apart = entries-from_entries nat_cmp_total _ (rw (swapped_keys es) apart)

pub under_filed :
    (h : ℕ) (es : List (ℕ × ℕ))
    → IsDistinctlyFiled es
    → IsPermutation (under h es) (indexes_under h (filed_from es))
under_filed h es apart =
    rw (← swapped_under h es) (IsPermutation-map (λ (e : ℕ × ℕ). e.0) _ _ (IsPermutation-filter (λ (e : ℕ × ℕ). e.1 == h) _ _ (filed_entries es apart)))

pub len_filed : (es : List (ℕ × ℕ)) → IsDistinctlyFiled es → length es ≡ finite.len (filed_from es)
len_filed es apart =
    sym (length-map es swapped) ∙ sym (length_permutation _ _ (filed_entries es apart)) ∙ sym (finite.len-entries _)

-- A look-up is one by other questions too, where each question of the first is one of the second, and in another order
-- of the values.
module _
    {F G T : Type 0} (ask : F → T → Bool → F → Type 0) (asks : G → T → Bool → G → Type 0) (R : F → G → Type 0)
    (follows : (f : F) (k : G) (x : T) (b : Bool) (f' : F) → R f k → ask f x b f' → (k' : G) × asks k x b k' × R f' k')
  where
    refused_follows :
        (f : F) (k : G) (xs : List T) (last : F)
        → R f k
        → AllRefused ask f xs last
        → (end : G) × AllRefused asks k xs end × R last end
    refused_follows f k [] last r same = (k, refl, subst (λ s. R s k) same r)
    refused_follows f k (x ∷ xs) last r calls =
        let one = follows f k x false calls.0 r calls.1 in
        let rest = refused_follows calls.0 one.0 xs last one.2 calls.2 in
        (rest.0, (one.0, one.1, rest.1), rest.2)

    pub LooksUp-follows :
        (f : F) (k : G) (xs ys : List T) (r : Option T)
        → R f k
        → IsPermutation xs ys
        → LooksUp ask f xs r
        → LooksUp asks k ys r
    LooksUp-follows f k xs ys None r moved miss =
        let end = refused_follows f k miss.asked miss.last r miss.were_refused in
        record {
          asked = miss.asked;
          each_once = IsPermutation-trans _ _ _ (IsPermutation-sym _ _ moved) miss.each_once;
          last = end.0;
          were_refused = end.1;
        }
    LooksUp-follows f k xs ys (Some v) r moved hit =
        let end = refused_follows f k hit.refused hit.before r hit.were_refused in
        let yes = follows hit.before end.0 v true hit.last end.2 hit.accepted in
        record {
          refused = hit.refused;
          unasked = hit.unasked;
          each_once = IsPermutation-trans _ _ _ (IsPermutation-sym _ _ moved) hit.each_once;
          before = end.0;
          were_refused = end.1;
          last = yes.0;
          accepted = yes.1;
        }

pub tied : (x y : ℕ) → eq_by_cmp nat_cmp x y ≡ true → nat_cmp x y ≡ Equal
tied x y is = by_answer (nat_cmp x y) is
  where
    by_answer : (r : Ordering) → is_eq r ≡ true → r ≡ Equal
    by_answer Less e = cc
    by_answer Equal e = refl
    by_answer Greater e = cc

pub untied : (x y : ℕ) → (x ≡ y → ⊥) → eq_by_cmp nat_cmp x y ≡ false
untied x y other = by_test (eq_by_cmp nat_cmp x y) refl
  where
    by_test : (b : Bool) → eq_by_cmp nat_cmp x y ≡ b → b ≡ false
    by_test true is = absurd (other (finite.nat_cmp-IsAntisymmetric x y (tied x y is)))
    by_test false is = refl

flips : (x y : ℕ) → eq_by_cmp nat_cmp x y ≡ eq_by_cmp nat_cmp y x
flips x y = (eq_by_cmp_equiv nat_cmp_total).symm x y

pub distinct_moved : (xs ys : List (ℕ × ℕ)) → IsPermutation xs ys → IsDistinctlyFiled xs → IsDistinctlyFiled ys
distinct_moved xs ys moved = IsDistinct-IsPermutation _ flips _ _ (IsPermutation-map (λ (e : ℕ × ℕ). e.1) xs ys moved)

-- two tests that do not both pass, in either order
choose : (a b : Bool) (x y z : Option ℕ) → (a ≡ true → b ≡ true → ⊥) → cond a x (cond b y z) ≡ cond b y (cond a x z)
choose true true x y z never = absurd (never refl refl)
choose true false x y z never = refl
choose false b x y z never = refl

-- two inserts at different keys, in either order
inserts_turn :
    (m : FinMap nat_cmp ℕ) (j k u v : ℕ)
    → eq_by_cmp nat_cmp j k ≡ false
    → finite.insert (finite.insert m k v) j u ≡ finite.insert (finite.insert m j u) k v
inserts_turn m j k u v apart = finite.same_map nat_cmp_total finite.nat_cmp-IsAntisymmetric _ _ at
  where
    never : (q : ℕ) → eq_by_cmp nat_cmp q j ≡ true → eq_by_cmp nat_cmp q k ≡ true → ⊥
    never q a b =
        let same = finite.nat_cmp-IsAntisymmetric q j (tied q j a) in
        let e = ap (λ x. eq_by_cmp nat_cmp x k) (sym same) in
        let f : false ≡ true = sym apart ∙ e ∙ b in cc

    at :
        (q : ℕ)
        → finite.get (finite.insert (finite.insert m k v) j u) q ≡ finite.get (finite.insert (finite.insert m j u) k v)
        q
    at q =
        rw (finite.get-insert nat_cmp_total, finite.get-insert nat_cmp_total, finite.get-insert nat_cmp_total, finite.get-insert nat_cmp_total) (choose _ _ _ _ _ (never q))

-- moves keep the pairs, and if no index stands twice, they keep the map
abbrev MovesMap : List (ℕ × ℕ) → List (ℕ × ℕ) → Type 0
MovesMap xs ys = IsPermutation xs ys × (IsDistinctlyFiled xs → filed_from xs ≡ filed_from ys)

pub filed_moved : (xs ys : List (ℕ × ℕ)) → IsPermutation xs ys → IsDistinctlyFiled xs → filed_from xs ≡ filed_from ys
filed_moved xs ys moved = (along_permutation MovesMap same skip turn chain xs ys moved).1
  where
    same : (xs : List (ℕ × ℕ)) → MovesMap xs xs
    same xs = (IsPermutation-refl xs, λ d. refl)

    skip : (x : ℕ × ℕ) (xs ys : List (ℕ × ℕ)) → MovesMap xs ys → MovesMap (x ∷ xs) (x ∷ ys)
    skip x xs ys h =
        (IsPermutation-cons x _ _ h.0, λ d. ap (λ m. finite.insert m x.1 x.0) (h.1 (IsDistinct-tail _ _ _ d)))

    turn : (x y : ℕ × ℕ) (xs : List (ℕ × ℕ)) → MovesMap (x ∷ y ∷ xs) (y ∷ x ∷ xs)
    turn x y xs =
        (IsPermutation-turn x y xs, λ d. inserts_turn (filed_from xs) x.1 y.1 x.0 y.0 (IsDistinct-head _ _ _ d).0)

    chain : (xs ys zs : List (ℕ × ℕ)) → MovesMap xs ys → MovesMap ys zs → MovesMap xs zs
    chain xs ys zs h k = (IsPermutation-trans _ _ _ h.0 k.0, λ d. h.1 d ∙ k.1 (distinct_moved xs ys h.0 d))

all_apart :
    (k : ℕ) (es : List (ℕ × ℕ))
    → find nat_cmp k (map swapped es) ≡ None
    → AllByRecursion (λ y. eq_by_cmp nat_cmp k y ≡ false) (values es)
all_apart k [] absent = tt
all_apart k (e ∷ es) absent =
    elim (eq_by_cmp nat_cmp k e.1) as (λ b. eq_by_cmp nat_cmp k e.1 ≡ b → cond b (Some e.0) (find nat_cmp k (map swapped es)) ≡ None → AllByRecursion (λ y. eq_by_cmp nat_cmp k y ≡ false) (values (e ∷ es))) [
      | true ↦ λ is none. absurd (cc)
      | false ↦ λ is none. (is, all_apart k es none)
    ] refl absent

-- an index that is not filed is added
pub distinct_added :
    (es new : List (ℕ × ℕ)) (hash ix : ℕ)
    → finite.get (filed_from es) ix ≡ None
    → IsPermutation ((hash, ix) ∷ es) new
    → IsDistinctlyFiled es
    → IsDistinctlyFiled new × (filed_from new ≡ finite.insert (filed_from es) ix hash)
distinct_added es new hash ix absent moved apart =
    let none = sym (finite.get-from_entries nat_cmp_total (map swapped es) ix) ∙ absent in
    let more : IsDistinctlyFiled ((hash, ix) ∷ es) = IsDistinct-cons _ ix (values es) (all_apart ix es none) apart in
    (distinct_moved _ _ moved more, sym (filed_moved _ _ moved more))

-- an index that is filed is removed
pub distinct_removed :
    (es new : List (ℕ × ℕ)) (hash ix : ℕ)
    → IsPermutation es ((hash, ix) ∷ new)
    → IsDistinctlyFiled es
    → IsDistinctlyFiled new × (filed_from new ≡ finite.remove (filed_from es) ix)
distinct_removed es new hash ix moved apart =
    let more : IsDistinctlyFiled ((hash, ix) ∷ new) = distinct_moved _ _ moved apart in
    let none : finite.get (filed_from new) ix ≡ None =
    finite.get-from_entries nat_cmp_total (map swapped new) ix
    ∙ find_absent nat_cmp ix (map swapped new) (rw (swapped_keys new) (IsDistinct-head _ _ _ more)) in
    let at : (q : ℕ) → finite.get (filed_from new) q ≡ finite.get (finite.remove (finite.insert (filed_from new) ix hash) ix) q =
    λ q.
    rw (finite.get-remove nat_cmp_total, finite.get-insert nat_cmp_total)
    (elim (eq_by_cmp nat_cmp ix q) as (λ b. eq_by_cmp nat_cmp ix q ≡ b → finite.get (filed_from new) q ≡ cond (eq_by_cmp nat_cmp q ix) None (cond (eq_by_cmp nat_cmp q ix) (Some hash) (finite.get (filed_from new) q))) [
      | true ↦ λ is. rw (sym (flips ix q) ∙ is) (ap (finite.get (filed_from new)) (sym (finite.nat_cmp-IsAntisymmetric ix q (tied ix q is))) ∙ none)
      | false ↦ λ is. rw (sym (flips ix q) ∙ is) refl
    ] refl) in
    (IsDistinct-tail _ _ _ more, finite.same_map nat_cmp_total finite.nat_cmp-IsAntisymmetric _ _ at ∙ ap (λ m. finite.remove m ix) (sym (filed_moved _ _ moved apart)))

-- the pairs of the other indexes
abbrev others : ℕ → List (ℕ × ℕ) → List (ℕ × ℕ)
others ix es = filter (λ (e : ℕ × ℕ). not (e.1 == ix)) es

module _ (ix : ℕ) where
  apart_others :
      (k : ℕ) (es : List (ℕ × ℕ))
      → AllByRecursion (λ y. eq_by_cmp nat_cmp k y ≡ false) (values es)
      → AllByRecursion (λ y. eq_by_cmp nat_cmp k y ≡ false) (values (others ix es))
  apart_others k [] apart = tt
  apart_others k (e ∷ es) apart =
      elim (not (e.1 == ix)) as (λ b. AllByRecursion (λ y. eq_by_cmp nat_cmp k y ≡ false) (values (cond b (e ∷ others ix es) (others ix es)))) [
        | true ↦ (apart.0, apart_others k es apart.1)
        | false ↦ apart_others k es apart.1
      ]

  distinct_others : (es : List (ℕ × ℕ)) → IsDistinctlyFiled es → IsDistinctlyFiled (others ix es)
  distinct_others [] apart = apart
  distinct_others (e ∷ es) apart =
      let rest = distinct_others es (IsDistinct-tail _ _ _ apart) in
      elim (not (e.1 == ix)) as (λ b. IsDistinctlyFiled (cond b (e ∷ others ix es) (others ix es))) [
        | true ↦ IsDistinct-cons _ e.1 (values (others ix es)) (apart_others e.1 es (IsDistinct-head _ _ _ apart)) rest
        | false ↦ rest
      ]

  either_way : (b : Bool) (x : Option ℕ) → x ≡ cond b x x
  either_way true x = refl
  either_way false x = refl

  absorbed : (b : Bool) (x y : Option ℕ) → cond b None y ≡ cond b None (cond b x y)
  absorbed true x y = refl
  absorbed false x y = refl

  find_others :
      (q : ℕ) (es : List (ℕ × ℕ))
      → find nat_cmp q (map swapped (others ix es))
      ≡ cond (eq_by_cmp nat_cmp q ix) None (find nat_cmp q (map swapped es))
  find_others q [] = either_way (eq_by_cmp nat_cmp q ix) None
  find_others q (e ∷ es) =
      let rest = find_others q es in
      elim (e.1 == ix) as (λ b. (e.1 == ix) ≡ b → find nat_cmp q (map swapped (cond (not b) (e ∷ others ix es) (others ix es))) ≡ cond (eq_by_cmp nat_cmp q ix) None (cond (eq_by_cmp nat_cmp q e.1) (Some e.0) (find nat_cmp q (map swapped es)))) [
        | true ↦ λ same.
            let is : eq_by_cmp nat_cmp q e.1 ≡ eq_by_cmp nat_cmp q ix =
            ap (eq_by_cmp nat_cmp q) (eqb-true e.1 ix same) in
            rest ∙ absorbed (eq_by_cmp nat_cmp q ix) (Some e.0) (find nat_cmp q (map swapped es))
            ∙ ap (λ b. cond (eq_by_cmp nat_cmp q ix) None (cond b (Some e.0) (find nat_cmp q (map swapped es)))) (sym is)
        | false ↦ λ other.
            let never : eq_by_cmp nat_cmp q e.1 ≡ true → eq_by_cmp nat_cmp q ix ≡ true → ⊥ = λ a b.
            let is : e.1 ≡ ix =
            sym (finite.nat_cmp-IsAntisymmetric q e.1 (tied q e.1 a))
            ∙ finite.nat_cmp-IsAntisymmetric q ix (tied q ix b) in
            let no : false ≡ true = sym other ∙ eq-eqb e.1 ix is in cc in
            ap (λ o. cond (eq_by_cmp nat_cmp q e.1) (Some e.0) o) rest ∙ choose _ _ _ _ _ never
      ] refl

  filed_others : (es : List (ℕ × ℕ)) → filed_from (others ix es) ≡ finite.remove (filed_from es) ix
  filed_others es = finite.same_map nat_cmp_total finite.nat_cmp-IsAntisymmetric _ _ at
    where
      at : (q : ℕ) → finite.get (filed_from (others ix es)) q ≡ finite.get (finite.remove (filed_from es) ix) q
      at q =
          finite.get-from_entries nat_cmp_total (map swapped (others ix es)) q
          ∙ find_others q es
          ∙ rw (finite.get-remove nat_cmp_total, finite.get-from_entries nat_cmp_total) refl

  -- if all other indexes are kept, one is removed
  pub distinct_kept :
      (es new : List (ℕ × ℕ))
      → IsPermutation (others ix es) new
      → IsDistinctlyFiled es
      → IsDistinctlyFiled new × (filed_from new ≡ finite.remove (filed_from es) ix)
  distinct_kept es new moved apart =
      let kept = distinct_others es apart in
      (distinct_moved _ _ moved kept, sym (filed_moved _ _ moved kept) ∙ filed_others es)

-- a removed index leaves one pair fewer
pub removed_len :
    (es new : List (ℕ × ℕ)) (ix : ℕ)
    → IsDistinctlyFiled es
    → IsDistinctlyFiled new
    → filed_from new ≡ finite.remove (filed_from es) ix
    → IsSome (finite.get (filed_from es) ix)
    → length new + 1 ≡ length es
removed_len es new ix apart apart_new gone here =
    let long = finite.len (filed_from es) in
    let fewer : finite.len (finite.remove (filed_from es) ix) ≡ finite.len (filed_from es) - 1 =
    finite.len-remove nat_cmp_total (filed_from es) ix ∙ ap (λ b. cond b (long - 1) long) here in
    omega (arith, len_filed es apart, len_filed new apart_new, ap finite.len gone, fewer, some es here)
  where
    some : (es : List (ℕ × ℕ)) → IsSome (finite.get (filed_from es) ix) → 0 < length es
    some [] here =
        let none : finite.get (filed_from []) ix ≡ None = finite.get-from_entries nat_cmp_total (map swapped []) ix in
        absurd (let never = rw none at here in cc)
    some (e ∷ es) here = omega arith
