-- For callers of a table of indexes: what its map says of the indexes under a hash, and of look-ups among them.
use Rattle.std.proofs.Common.{◌+◌, ◌<◌, arith, ◌≡◌, ◌==◌, ◌&&◌, ◌||◌, ◌∙◌, ℕ, Bool, true, false, cond, List, [], ◌∷◌, map, filter, Option, Some, None, IsSome, refl, sym, ap, subst, Contains, eqb-true, eq-eqb, T as Holds}
use Rattle.std.specs.List.{list_any, IsDistinct, AllByRecursion}
use Rattle.std.specs.Ordering.{nat_cmp, eq_by_cmp, is_eq, is_lt}
use Rattle.std.specs.declared.cmp.Ordering.{Ordering}
use Rattle.std.specs.declared.cmp.Ordering.TheVariants.{Less, Equal, Greater}
use Rattle.std.specs.Cmp.{nat_cmp_total, eq_by_cmp_equiv}
use Rattle.std.specs.FinMap as finite
use Rattle.std.specs.FinMap.{FinMap}
use Rattle.std.specs.FinMap.Entries.{find, is_sorted, below_all}
use Rattle.std.specs.Fn.{Shared}
use Rattle.std.proofs.lemmas.Map.Keys.{IsDistinct-cons}
use Rattle.std.proofs.lemmas.Map.Made.{IsDistinct-keys_filter}
use Rattle.std.proofs.lemmas.Map.Views.{list_any-from_Contains, Contains-from_any}
use Rattle.iddqd_hash.specs.Asks.{Hits, Misses, LooksUp}
use Rattle.iddqd_hash.specs.HashTable.{value_of}
use Rattle.iddqd_hash.specs.MapHashTable.{indexes_under, AsksKey, FindsWhere}
use Rattle.iddqd_hash.specs.MapHashTableEntry.{entry_pair, entry_index}
use Rattle.iddqd_hash.specs.declared.hash_table.OccupiedEntry.{OccupiedEntry}
use Rattle.iddqd_hash.proofs.AskLemmas.{Hits-tested, Misses-tested, list_any-passed, or_true}
use Rattle.iddqd_hash.proofs.MapHashTableLemmas.{tied}

-- the index of an entry is that of its pair
pub entry_index-value : (e : OccupiedEntry) → entry_index e ≡ value_of (entry_pair e)
unfolding entry_index
entry_index-value e = refl

both_hold : (a b : Bool) → Holds (a && b) → Holds a × Holds b
both_hold true b h = (tt, h)
both_hold false b h = absurd h

pub same_index : (x y : ℕ) → eq_by_cmp nat_cmp x y ≡ true → x ≡ y
same_index x y is = finite.nat_cmp-IsAntisymmetric x y (tied x y is)

-- an index below all keys has no entry
not_below : (x : ℕ) (es : List (ℕ × ℕ)) → Holds (below_all nat_cmp x es) → find nat_cmp x es ≡ None
not_below x [] h = refl
not_below x (e ∷ es) h =
    elim (nat_cmp x e.0) as (λ r. Holds (is_lt r && below_all nat_cmp x es) → cond (is_eq r) (Some e.1) (find nat_cmp x es) ≡ None) [
      | Less ↦ λ h. not_below x es h
      | Equal ↦ λ h. absurd h
      | Greater ↦ λ h. absurd h
    ] h

module _ (hash : ℕ) where
  -- whether an index stands among the entries under the hash
  abbrev stands : List (ℕ × ℕ) → ℕ → Bool
  stands under ix = list_any (eq_by_cmp nat_cmp ix) (map (λ (e : ℕ × ℕ). e.0) under)

  abbrev hashed : List (ℕ × ℕ) → List (ℕ × ℕ)
  hashed es = filter (λ (e : ℕ × ℕ). e.1 == hash) es

  find_from_stands :
      (es : List (ℕ × ℕ)) (ix : ℕ)
      → Holds (is_sorted nat_cmp es)
      → stands (hashed es) ix ≡ true
      → find nat_cmp ix es ≡ Some hash
  find_from_stands [] ix rising here = cc
  find_from_stands (e ∷ es) ix rising here =
      let parts = both_hold _ _ rising in
      elim (e.1 == hash) as (λ b. (e.1 == hash) ≡ b → stands (cond b (e ∷ hashed es) (hashed es)) ix ≡ true → cond (eq_by_cmp nat_cmp ix e.0) (Some e.1) (find nat_cmp ix es) ≡ Some hash) [
        | true ↦ λ same here.
            elim (eq_by_cmp nat_cmp ix e.0) as (λ t. (t || stands (hashed es) ix) ≡ true → cond t (Some e.1) (find nat_cmp ix es) ≡ Some hash) [
              | true ↦ λ _. ap Some (eqb-true e.1 hash same)
              | false ↦ λ here. find_from_stands es ix parts.1 here
            ] here
        | false ↦ λ _ here.
            let found = find_from_stands es ix parts.1 here in
            elim (eq_by_cmp nat_cmp ix e.0) as (λ t. eq_by_cmp nat_cmp ix e.0 ≡ t → cond t (Some e.1) (find nat_cmp ix es) ≡ Some hash) [
              | true ↦ λ is.
                  let none : find nat_cmp ix es ≡ None =
                  subst (λ x. find nat_cmp x es ≡ None) (sym (same_index ix e.0 is)) (not_below e.0 es parts.0) in
                  absurd (let never : None ≡ Some hash = sym none ∙ found in cc)
              | false ↦ λ _. found
            ] refl
      ] refl here

  stands_from_find : (es : List (ℕ × ℕ)) (ix : ℕ) → find nat_cmp ix es ≡ Some hash → stands (hashed es) ix ≡ true
  stands_from_find [] ix found = cc
  stands_from_find (e ∷ es) ix found =
      elim (eq_by_cmp nat_cmp ix e.0) as (λ t. eq_by_cmp nat_cmp ix e.0 ≡ t → cond t (Some e.1) (find nat_cmp ix es) ≡ Some hash → stands (cond (e.1 == hash) (e ∷ hashed es) (hashed es)) ix ≡ true) [
        | true ↦ λ is found.
            let same : e.1 ≡ hash = cc in
            rw (eq-eqb e.1 hash same, is) refl
        | false ↦ λ _ found.
            let rest = stands_from_find es ix found in
            elim (e.1 == hash) as (λ b. stands (cond b (e ∷ hashed es) (hashed es)) ix ≡ true) [
              | true ↦ rw rest (or_true (eq_by_cmp nat_cmp ix e.0))
              | false ↦ rest
            ]
      ] refl found

-- indexes that rise differ
less_apart : (r : Ordering) → Holds (is_lt r) → is_eq r ≡ false
less_apart Less less = refl
less_apart Equal less = absurd less
less_apart Greater less = absurd less

below_apart :
    (k : ℕ) (es : List (ℕ × ℕ))
    → Holds (below_all nat_cmp k es)
    → AllByRecursion (λ y. eq_by_cmp nat_cmp k y ≡ false) (map (λ (e : ℕ × ℕ). e.0) es)
below_apart k [] below = tt
below_apart k (e ∷ es) below =
    let parts = both_hold _ _ below in
    (less_apart (nat_cmp k e.0) parts.0, below_apart k es parts.1)

apart_if_rising :
    (es : List (ℕ × ℕ))
    → Holds (is_sorted nat_cmp es)
    → IsDistinct (eq_by_cmp nat_cmp) (map (λ (e : ℕ × ℕ). e.0) es)
unfolding IsDistinct
apart_if_rising [] rising = tt
apart_if_rising (e ∷ es) rising =
    let parts = both_hold _ _ rising in
    IsDistinct-cons (eq_by_cmp nat_cmp) e.0 (map (λ (e : ℕ × ℕ). e.0) es) (below_apart e.0 es parts.0) (apart_if_rising es parts.1)

module _ (m : FinMap nat_cmp ℕ) (hash : ℕ) where
  -- the indexes under a hash are those that are filed with it
  pub filed_from_under : (ix : ℕ) → Contains (indexes_under hash m) ix → finite.get m ix ≡ Some hash
  filed_from_under ix here =
      finite.get-entries m ix
      ∙ find_from_stands hash (finite.entries m) ix (finite.entries_sorted m) (list_any-from_Contains (eq_by_cmp_equiv nat_cmp_total) ix _ here)

  pub under_from_filed : (ix : ℕ) → finite.get m ix ≡ Some hash → Contains (indexes_under hash m) ix
  under_from_filed ix is =
      Contains-from_any same_index ix _ (stands_from_find hash (finite.entries m) ix (sym (finite.get-entries m ix) ∙ is))

  -- the indexes under a hash differ
  pub distinct_under : IsDistinct (eq_by_cmp nat_cmp) (indexes_under hash m)
  distinct_under =
      IsDistinct-keys_filter (eq_by_cmp nat_cmp) (λ (e : ℕ × ℕ). e.1 == hash) (finite.entries m) (apart_if_rising (finite.entries m) (finite.entries_sorted m))

  -- what holds of each index that is filed holds of those under the hash, as that a lookup may be called on them
  pub under_all_filed :
      (P : ℕ → Type 0)
      → ((ix : ℕ) → IsSome (finite.get m ix) → P ix)
      → (ix : ℕ)
      → Contains (indexes_under hash m) ix
      → P ix
  under_all_filed P all ix here =
      let is = filed_from_under ix here in
      all ix (rw is refl)

  -- Where each answer on an index under the hash is a function of the index, in every state that asks lead to, a hit
  -- passes the test, and at a miss no index under the hash does.
  module _
      {F : Type 0} (ask : F → ℕ → Bool → F → Type 0) (I : F → Type 0) (test : ℕ → Bool)
      (says : (s : F) (ix : ℕ) (b : Bool) (t : F) → finite.get m ix ≡ Some hash → I s → ask s ix b t → (b ≡ test ix) × I
      t)
    where
      says_under :
          (s : F) (ix : ℕ) (b : Bool) (t : F)
          → Contains (indexes_under hash m) ix
          → I s
          → ask s ix b t
          → (b ≡ test ix) × I t
      says_under s ix b t here = says s ix b t (filed_from_under ix here)

      pub Hits-filed :
          (f : F) (ix : ℕ)
          → I f
          → Hits ask f (indexes_under hash m) ix
          → (finite.get m ix ≡ Some hash) × (test ix ≡ true)
      Hits-filed f ix i hit =
          let found = Hits-tested ask I test _ says_under f ix i hit in
          (filed_from_under ix found.0, found.1)

      pub Misses-filed :
          (f : F)
          → I f
          → Misses ask f (indexes_under hash m)
          → (ix : ℕ)
          → finite.get m ix ≡ Some hash
          → test ix ≡ false
      Misses-filed f i miss ix is =
          let none = Misses-tested ask I test _ says_under f i miss in
          elim (test ix) as (λ b. test ix ≡ b → b ≡ false) [
            | true ↦ λ passes. sym (list_any-passed test _ ix (under_from_filed ix is) passes) ∙ none
            | false ↦ λ _. refl
          ] refl

      pub FindsWhere-looked_up :
          (f : F) (r : Option ℕ)
          → I f
          → LooksUp ask f (indexes_under hash m) r
          → FindsWhere test hash m r
      FindsWhere-looked_up f None i miss = Misses-filed f i miss
      FindsWhere-looked_up f (Some ix) i hit = Hits-filed f ix i hit

  -- the same of a look-up by a query, if the test says whether the query is equivalent to the key of an index
  pub FindsWhere-by_key :
      {F Q K : Type 0} (g : Shared F (ℕ × Unit {0}) K) (equivalent : Q → K → Bool) (lookup : F) (query : Q)
      (test : ℕ → Bool) (r : Option ℕ)
      → LooksUp (AsksKey g equivalent lookup query) tt (indexes_under hash m) r
      → ((ix : ℕ) (key : K) → finite.get m ix ≡ Some hash → g.post lookup (ix, tt) key → equivalent query key ≡ test ix)
      → FindsWhere test hash m r
  FindsWhere-by_key g equivalent lookup query test r looked_up agrees =
      FindsWhere-looked_up (AsksKey g equivalent lookup query) (λ _. Unit {0}) test (λ _ ix b _ is _ asked. (asked.is ∙ agrees ix asked.key is asked.gives, tt)) tt r tt looked_up

-- each index of the map is below n
abbrev pub AllBelow : FinMap nat_cmp ℕ → ℕ → Type 0
AllBelow m n = (ix : ℕ) → IsSome (finite.get m ix) → ix < n

pub AllBelow-fresh : (m : FinMap nat_cmp ℕ) (n : ℕ) → AllBelow m n → finite.get m n ≡ None
AllBelow-fresh m n below =
    elim (finite.get m n) as (λ o. finite.get m n ≡ o → o ≡ None) [
      | Some hash ↦ λ is. absurd (let never : n < n = below n (rw is refl) in omega arith)
      | None ↦ λ _. refl
    ] refl

pub AllBelow-insert :
    (m : FinMap nat_cmp ℕ) (n ix hash : ℕ)
    → ix ≡ n
    → AllBelow m n
    → AllBelow (finite.insert m ix hash) (n + 1)
AllBelow-insert m n ix hash last below q stored =
    let opened : IsSome (cond (eq_by_cmp nat_cmp q ix) (Some hash) (finite.get m q)) =
    rw (finite.get-insert nat_cmp_total) at stored in
    elim (eq_by_cmp nat_cmp q ix) as (λ b. eq_by_cmp nat_cmp q ix ≡ b → IsSome (cond b (Some hash) (finite.get m q)) → q < n + 1) [
      | true ↦ λ is _. let same : q ≡ ix = same_index q ix is in omega arith
      | false ↦ λ _ here. let under : q < n = below q here in omega arith
    ] refl opened
