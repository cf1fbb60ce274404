-- For callers of look-ups in a hash table: what an answer says of the items.
use Rattle.std.proofs.Common.{◌≡◌, ◌∙◌, ℕ, List, Bool, true, false, IsTrue, Option, Some, None, refl, sym, ap}
use Rattle.std.specs.Cmp.{IsPartialEquivalence}
use Rattle.std.specs.Ordering.{nat_cmp}
use Rattle.std.specs.FinMap.{FinMap}
use Rattle.std.specs.declared.hash.Hasher as hasher
use Rattle.std.specs.declared.hash.BuildHasher as builder
use Rattle.iddqd.specs.MapHash.{hash_one}
use Rattle.iddqd.specs.Store.{Store, get}
use Rattle.iddqd_hash.specs.MapHashTable.{FindsWhere}
use Rattle.iddqd_keys.specs.Scan.{IsHit, AnswersScan, passes_by}
use Rattle.iddqd_keys.proofs.ScanLemmas.{AnswersScan-hit}
use Rattle.iddqd_by_hash.specs.Hashed.{Hashing, hashing_of, IsLawful, StandsForOne, AsksAt, Finds, IsInSync, LooksUp, passes}

-- keys whose bounds keep their laws
pub IsLawful-from_bounds :
    {K S H : Type 0} (equal : K → K → Bool) (hash_input : K → List (List ℕ)) (b : builder.Ghosts S H)
    (h : hasher.Ghosts H) (state : S)
    → IsPartialEquivalence equal
    → ((x y : K) → IsTrue (equal x y) → hash_input x ≡ hash_input y)
    → IsLawful (hashing_of equal hash_input b h state)
IsLawful-from_bounds equal hash_input b h state equivalence respects =
    record { equivalence = equivalence; equal_hash = λ x y same. ap (hash_one b h state) (respects x y same) }

-- a lawful key stands for itself, under its hash
pub StandsForOne-key :
    {K : Type 0} (hashing : Hashing K) (key : K) (hash : ℕ)
    → IsLawful hashing
    → hash ≡ hashing.hash_of key
    → StandsForOne hashing hash (hashing.equal key)
StandsForOne-key hashing key hash lawful is =
    let e = lawful.equivalence in
    record {
      hashed = λ k same. sym (lawful.equal_hash key k same) ∙ sym is;
      one_key = λ a b left right. e.trans a key b (e.symm a key ∙ left) right;
    }

module _ {T : Type 0} where
  pub hit_from_passes : (s : Store T) (test : T → Bool) (ix : ℕ) → IsTrue (passes s test ix) → IsHit s test ix
  hit_from_passes s test ix =
      elim (get s ix) as (λ o. get s ix ≡ o → IsTrue (elim o [ None ↦ false | Some item ↦ test item ])
      → IsHit s test ix) [
        | Some item ↦ λ is passed. (item, is, passed)
        | None ↦ λ is passed. absurd (cc)
      ] refl

  pub passes_from_hit : (s : Store T) (test : T → Bool) (ix : ℕ) → IsHit s test ix → passes s test ix ≡ true
  passes_from_hit s test ix (item, is, passed) = rw (passes, is) passed

  -- a search under a hash for an item that passes
  pub Finds-from_where :
      (s : Store T) (m : FinMap nat_cmp ℕ) (hash : ℕ) (test : T → Bool) (r : Option ℕ)
      → FindsWhere (passes s test) hash m r
      → Finds s m hash test r
  Finds-from_where s m hash test None misses = λ ix found.
      let passed : true ≡ false = sym (passes_from_hit s test ix found.hit) ∙ misses ix found.filed in
      cc
  Finds-from_where s m hash test (Some ix) hits = record { hit = hit_from_passes s test ix hits.1; filed = hits.0 }

module _ {T K : Type 0} (key_of : T → K) (s : Store T) where
  -- what a query answered of the key at an index
  pub passes-asked :
      (test : K → Bool) (ix : ℕ) (answer : Bool)
      → AsksAt key_of s test ix answer
      → answer ≡ passes s (passes_by key_of test) ix
  passes-asked test ix answer asked = rw (passes, asked.live) asked.is

  module _ (m : FinMap nat_cmp ℕ) (hash : ℕ) (test : K → Bool) where
    -- where the table is in sync and the query stands for one key, that is a scan
    pub AnswersScan-found :
        (hashing : Hashing K) (r : Option ℕ)
        → StandsForOne hashing hash test
        → IsInSync key_of hashing s m
        → Finds s m hash (passes_by key_of test) r
        → AnswersScan s (passes_by key_of test) r
    AnswersScan-found hashing None one o misses = λ ix hit.
        misses ix (record { hit = hit; filed = o.placed ix hit.0 hit.1 ∙ ap Some (one.hashed (key_of hit.0) hit.2) })
    AnswersScan-found hashing (Some ix) one o found =
        AnswersScan-hit _ s _ ix (λ x y. one.one_key (key_of x) (key_of y)) o.apart found.hit

    pub LooksUp-found : (r : Option ℕ) → Finds s m hash (passes_by key_of test) r → LooksUp key_of s m hash test r
    LooksUp-found r found = record { found = found; as_scan = λ hashing one o. AnswersScan-found hashing r one o found }
