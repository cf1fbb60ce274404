-- For callers: a map of hashes that has exactly the live indexes has as many of them as there are items.
use Rattle.std.proofs.Common.{◌≡◌, ◌&&◌, ◌∙◌, ◌↔◌, ℕ, Bool, true, false, nat_eq, List, [], ◌∷◌, map, is_some, IsSome, refl, sym, ap, subst, eqb-true, T as Holds}
use Rattle.std.specs.Cmp.{eq_by_cmp_equiv}
use Rattle.std.specs.List.{AllByRecursion, Contains, IsDistinct}
use Rattle.std.specs.Ordering.{nat_cmp, is_lt}
use Rattle.std.specs.FinMap as finite
use Rattle.std.specs.FinMap.{FinMap}
use Rattle.std.specs.FinMap.Entries.{is_sorted, below_all, is_some-find}
use Rattle.std.proofs.lemmas.Cmp.{nat_cmp_total, tied_itself}
use Rattle.std.proofs.lemmas.List.{length-map}
use Rattle.std.proofs.lemmas.Map.Keys.{IsDistinct-cons}
use Rattle.std.proofs.lemmas.Map.Views.{list_any-from_Contains, Contains-from_any}
use Rattle.iddqd.specs.Store.{Store, live_count}
use Rattle.iddqd_hash.specs.MapHashTable.{indexes_of}
use Rattle.iddqd_hash.proofs.FiledLemmas.{same_index}
use Rattle.iddqd_by_hash.specs.Hashed as hashed
use Rattle.iddqd_keys.proofs.CountLemmas.{length-listed}

both_hold : (a b : Bool) → Holds (a && b) → Holds a × Holds b
both_hold true b h = (tt, h)
both_hold false b h = absurd h

less_differs : (x y : ℕ) → Holds (is_lt (nat_cmp x y)) → nat_eq x y ≡ false
less_differs x y less =
    elim (nat_eq x y) as (λ b. nat_eq x y ≡ b → b ≡ false) [
      | true ↦ λ same.
          let itself : Holds (is_lt (nat_cmp x x)) =
          subst (λ z. Holds (is_lt (nat_cmp x z))) (sym (eqb-true x y same)) less in
          absurd (subst (λ r. Holds (is_lt r)) (tied_itself nat_cmp_total x) itself)
      | false ↦ λ _. refl
    ] refl

below_apart :
    (x : ℕ) (es : List (ℕ × ℕ))
    → Holds (below_all nat_cmp x es)
    → AllByRecursion (λ y. nat_eq x y ≡ false) (map (λ (e : ℕ × ℕ). e.0) es)
below_apart x [] h = tt
below_apart x (e ∷ es) h =
    let parts = both_hold _ _ h in
    (less_differs x e.0 parts.0, below_apart x es parts.1)

-- the keys of a map differ
pub sorted_apart : (es : List (ℕ × ℕ)) → Holds (is_sorted nat_cmp es) → IsDistinct nat_eq (map (λ (e : ℕ × ℕ). e.0) es)
unfolding IsDistinct
sorted_apart [] h = tt
sorted_apart (e ∷ es) h =
    let parts = both_hold _ _ h in
    IsDistinct-cons nat_eq e.0 (map (λ (e : ℕ × ℕ). e.0) es) (below_apart e.0 es parts.0) (sorted_apart es parts.1)

-- an index is listed exactly where it has a hash
pub listed_filed : (m : FinMap nat_cmp ℕ) (ix : ℕ) → Contains (indexes_of m) ix ↔ IsSome (finite.get m ix)
listed_filed m ix =
    let is = ap is_some (finite.get-entries m ix) ∙ is_some-find nat_cmp ix (finite.entries m) in (
      λ here. is ∙ list_any-from_Contains (eq_by_cmp_equiv nat_cmp_total) ix _ here,
      λ some. Contains-from_any same_index ix _ (sym is ∙ some),
    )

module _ {T : Type 0} where
  pub len-held : (s : Store T) (m : FinMap nat_cmp ℕ) → hashed.Holds s m → finite.len m ≡ live_count s
  len-held s m held =
      finite.len-entries m ∙ sym (length-map (finite.entries m) (λ (e : ℕ × ℕ). e.0)) ∙
      length-listed s (indexes_of m) (λ ix. (
        λ here. (held ix).0 ((listed_filed m ix).0 here),
        λ live. (listed_filed m ix).1 ((held ix).1 live),
      )) (sorted_apart (finite.entries m) (finite.entries_sorted m))
