-- What a walk over a group of indexes finds, and that a group has exactly the hits under its hash.
use Rattle.std.proofs.Common.{◌≡◌, ◌∙◌, ◌↔◌, ⊎_elim, ℕ, Bool, true, false, cond, List, [], ◌∷◌, filter, nat_eq, Option, Some, None, IfSome, length, not, ◌≤◌, arith, refl, sym, ap, subst, Contains}
use Rattle.std.specs.Iterator.{at_most, UpTo}
use Rattle.std.specs.List.{IsDistinct}
use Rattle.std.specs.Ordering.{nat_cmp}
use Rattle.std.specs.FinMap.{FinMap}
use Rattle.std.proofs.lemmas.List.Filters.{length-filter_both}
use Rattle.std.proofs.lemmas.List.Kept.{AllPairs-filter}
use Rattle.std.proofs.lemmas.Map.Keys.{IsDistinct-from_apart, apart_from_distinct}
use Rattle.iddqd.specs.Store.{Store}
use Rattle.iddqd.proofs.StoreLemmas.{contains_head, contains_tail, contains_cases, contains_none}
use Rattle.iddqd_hash.proofs.MemberLemmas.{filed_at}
use Rattle.iddqd_keys.specs.Scan.{IsLive, passes_by}
use Rattle.iddqd_by_hash.specs.Hashed.{AreLive, IsHitUnder, passes}
use Rattle.iddqd_groups.specs.HashedGroup.{hits_among, IsGroupOf}
use Rattle.iddqd_groups.specs.Links.{AreUnder}
use Rattle.iddqd_by_hash.proofs.FindLemmas.{hit_from_passes, passes_from_hit}
use Rattle.iddqd_map.proofs.GroupRetainLemmas.{Contains-passing}

-- the members of a list that pass a test
module _ {X : Type 0} (test : X → Bool) where
  pub filter-passed : (x : X) (xs : List X) → test x ≡ true → filter test (x ∷ xs) ≡ x ∷ filter test xs
  filter-passed x xs is = rw is refl

  pub filter-refused : (x : X) (xs : List X) → test x ≡ false → filter test (x ∷ xs) ≡ filter test xs
  filter-refused x xs is = rw is refl

  pub was_there : (xs : List X) (x : X) → Contains (filter test xs) x → Contains xs x × (test x ≡ true)
  was_there [] x here = absurd (contains_none x here)
  was_there (y ∷ xs) x here =
      elim (test y) as (λ b. test y ≡ b → Contains (cond b (y ∷ filter test xs) (filter test xs)) x
      → Contains (y ∷ xs) x × (test x ≡ true)) [
        | true ↦
            λ is here. ⊎_elim (λ same. (
              subst (λ z. Contains (z ∷ xs) x) (sym same) (contains_head x xs),
              ap test (sym same) ∙ is,
            )) (λ rest. let (there, passed) = was_there xs x rest in
            (contains_tail y x xs there, passed)) (contains_cases y x (filter test xs) here)
        | false ↦ λ _ here. let (there, passed) = was_there xs x here in (contains_tail y x xs there, passed)
      ] refl here

pub length-kept : (test : ℕ → Bool) (xs : List ℕ) → length (filter test xs) ≤ length xs
length-kept test xs =
    omega (arith, length-filter_both test (λ x. not (test x)) (λ x. refl) xs)

-- a bound on how many come bounds fewer
pub bounds-fewer :
    (o : Option ℕ) (more fewer : ℕ)
    → fewer ≤ more
    → IfSome o (UpTo (at_most more))
    → IfSome o (UpTo (at_most fewer))
bounds-fewer None more fewer less bound = tt
bounds-fewer (Some most) more fewer less bound = (bound.0, omega (arith, less, bound.1))

distinct-kept : (test : ℕ → Bool) (xs : List ℕ) → IsDistinct nat_eq xs → IsDistinct nat_eq (filter test xs)
distinct-kept test xs apart =
    IsDistinct-from_apart nat_eq (filter test xs)
    (AllPairs-filter (λ a b. nat_eq a b ≡ false) test xs
    (λ i j d less within. apart_from_distinct nat_eq xs i j d apart less within))

-- the indexes under a hash are live where all that are filed are
pub live_under :
    {T : Type 0} (s : Store T) (m : FinMap nat_cmp ℕ) (hash : ℕ) (xs : List ℕ)
    → AreUnder m hash xs
    → AreLive s m
    → (ix : ℕ)
    → Contains xs ix
    → IsLive s ix
live_under s m hash xs under live ix here = live ix (filed_at _ hash ((under.each ix).0 here))

module _
    {T K : Type 0} (key_of : T → K) (s : Store T) (m : FinMap nat_cmp ℕ) (hash : ℕ) (test : K → Bool) (xs : List ℕ)
    (under : AreUnder m hash xs)
  where
    each_hit :
        (ix : ℕ)
        → Contains (hits_among s (passes_by key_of test) xs) ix ↔ IsHitUnder s m hash (passes_by key_of test) ix
    each_hit ix = (
      λ here.
          let (there, passed) = was_there (passes s (passes_by key_of test)) xs ix here in
          record {
            hit = hit_from_passes s (passes_by key_of test) ix passed;
            filed = (under.each ix).0 there;
          },
      λ found.
          Contains-passing (passes s (passes_by key_of test)) xs ix ((under.each ix).1 found.filed)
          (passes_from_hit s (passes_by key_of test) ix found.hit),
    )

    pub IsGroupOf-under : IsGroupOf key_of s m hash test (hits_among s (passes_by key_of test) xs)
    IsGroupOf-under =
        record {
          once = distinct-kept _ xs under.once;
          each = each_hit;
          as_scan = λ hashing hashed placed ix. (
            λ here. ((each_hit ix).0 here).hit,
            λ hit.
                (each_hit ix).1 (record {
                  hit = hit;
                  filed = placed ix hit.0 hit.1 ∙ ap Some (hashed (key_of hit.0) hit.2);
                }),
          );
        }
