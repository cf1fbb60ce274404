-- A table in sync by keys is in sync by items; and what queries for items stand for.
use Rattle.std.proofs.Common.{◌≡◌, ◌∙◌, ℕ, Bool, IsTrue, List, ap, sym}
use Rattle.std.specs.Cmp.{IsEquivalence, on_equiv, partial_equiv_from_equiv}
use Rattle.std.specs.FinMap.{FinMap}
use Rattle.std.specs.Ordering.{nat_cmp, on}
use Rattle.std.specs.declared.hash.Hasher as hasher
use Rattle.std.specs.declared.hash.BuildHasher as builder
use Rattle.iddqd.specs.MapHash.{hash_one}
use Rattle.iddqd.specs.Store.{Store}
use Rattle.iddqd_by_hash.specs.Hashed.{Hashing, IsInSync, StandsForOne, hashing_of}
use Rattle.iddqd_by_hash.proofs.FindLemmas.{IsLawful-from_bounds, StandsForOne-key}

module _
    {T K S H : Type 0} (key_of : T → K) (equal : K → K → Bool) (fed : K → List (List ℕ)) (b : builder.Ghosts S H)
    (h : hasher.Ghosts H) (state : S)
  where
    -- keys as items have them
    abbrev pub item_hashing : Hashing T
    item_hashing = hashing_of (on key_of equal) (λ x. fed (key_of x)) b h state

    pub IsInSync-items :
        (s : Store T) (m : FinMap nat_cmp ℕ)
        → IsInSync key_of (hashing_of equal fed b h state) s m
        → IsInSync (λ x. x) item_hashing s m
    IsInSync-items s m o = record { placed = o.placed; apart = o.apart }

    -- a query that keeps the laws stands for the items of one key, under its hash
    pub StandsForOne-query :
        (input : List (List ℕ)) (test : T → Bool)
        → ((x : T) → IsTrue (test x) → input ≡ fed (key_of x))
        → ((x y : T) → IsTrue (test x) → test y ≡ equal (key_of x) (key_of y))
        → StandsForOne item_hashing (hash_one b h state input) test
    StandsForOne-query input test same_hash same_key = record {
      hashed = λ x passed. ap (hash_one b h state) (sym (same_hash x passed));
      one_key = λ x y one other. sym (same_key x y one) ∙ other;
    }

    pub StandsForOne-item :
        IsEquivalence equal
        → ((x y : K) → IsTrue (equal x y) → fed x ≡ fed y)
        → (item : T) (hash : ℕ)
        → hash ≡ hash_one b h state (fed (key_of item))
        → StandsForOne item_hashing hash (λ x. equal (key_of item) (key_of x))
    StandsForOne-item laws respects item hash is =
        StandsForOne-key item_hashing item hash
        (IsLawful-from_bounds (on key_of equal) (λ x. fed (key_of x)) b h state (partial_equiv_from_equiv (on_equiv key_of laws)) (λ x y. respects (key_of x) (key_of y)))
        is
