-- How a table of indexes under hashes relates to one key of a store's items. `hashes` is `filed` of the table: it maps
-- each of its indexes to the hash under which it is stored.
use Rattle.std.specs.Prelude.{◌≡◌, ℕ, Bool, true, false, List, Option, Some, None, IsSome}
use Rattle.std.specs.Cmp.{IsPartialEquivalence}
use Rattle.std.specs.Ordering.{nat_cmp}
use Rattle.std.specs.FinMap as finite
use Rattle.std.specs.FinMap.{FinMap}
use Rattle.std.specs.declared.hash.Hasher as hasher
use Rattle.std.specs.declared.hash.BuildHasher as builder
use Rattle.iddqd.specs.MapHash.{hash_one}
use Rattle.iddqd.specs.Store.{Store, get}
use Rattle.iddqd_keys.specs.Scan.{IsLive, IsHit, AnswersScan, passes_by}
use Rattle.iddqd_keys.specs.AnyTable.{HasExactly, TableIsInSync, TableKeeps}

-- when two keys are equal, and the hash of a key
pub record Hashing (K : Type 0) : Type 0 where
  pub equal : K → K → Bool
  pub hash_of : K → ℕ

-- the `Hashing` of a key type's `Eq` and `Hash`, and of a hasher with its state
abbrev pub hashing_of :
    {K S H : Type 0} → (K → K → Bool) → (K → List (List ℕ)) → builder.Ghosts S H → hasher.Ghosts H → S → Hashing K
hashing_of equal hash_input b h state =
    record { equal = equal; hash_of = λ key. hash_one b h state (hash_input key) }

module _ {K : Type 0} (hashing : Hashing K) where
  -- equality is symmetric and transitive, and equal keys have one hash
  pub record IsLawful : Type 0 where
    pub equivalence : IsPartialEquivalence hashing.equal
    pub equal_hash : (a b : K) → hashing.equal a b ≡ true → hashing.hash_of a ≡ hashing.hash_of b

  -- the keys that pass the test have the hash
  abbrev pub HaveHash : ℕ → (K → Bool) → Type 0
  HaveHash hash test = (key : K) → test key ≡ true → hashing.hash_of key ≡ hash

  -- A query with this hash and this test stands for one key: the keys that pass have the hash, and are equal.
  pub record StandsForOne (hash : ℕ) (test : K → Bool) : Type 0 where
    pub hashed : HaveHash hash test
    pub one_key : (a b : K) → test a ≡ true → test b ≡ true → hashing.equal a b ≡ true

-- the index is live, and `answer` is what the test says of its item's key
pub record AsksAt {T K : Type 0} (key_of : T → K) (s : Store T) (test : K → Bool) (ix : ℕ) (answer : Bool)
    : Type 0 where
  pub item : T
  pub live : get s ix ≡ Some item
  pub is : answer ≡ test (key_of item)

-- `new` is `old` without the index that a look-up found, or `old` itself if it found none
abbrev pub Takes : FinMap nat_cmp ℕ → Option ℕ → FinMap nat_cmp ℕ → Type 0
Takes old (Some ix) new = new ≡ finite.remove old ix
Takes old None new = new ≡ old

module _ {T : Type 0} where
  -- whether the index is live and its item passes the test
  abbrev pub passes : Store T → (T → Bool) → ℕ → Bool
  passes s test ix = elim (get s ix) [ None ↦ false | Some item ↦ test item ]

  -- each index of the table is live
  abbrev pub AreLive : Store T → FinMap nat_cmp ℕ → Type 0
  AreLive s hashes = (ix : ℕ) → IsSome (finite.get hashes ix) → IsLive s ix

  -- the table has exactly the live indexes
  abbrev pub Holds : Store T → FinMap nat_cmp ℕ → Type 0
  Holds s hashes = HasExactly s (λ ix. IsSome (finite.get hashes ix))

  -- the index is in the table under this hash, and its item passes the test
  pub record IsHitUnder (s : Store T) (hashes : FinMap nat_cmp ℕ) (hash : ℕ) (test : T → Bool) (ix : ℕ) : Type 0 where
    pub hit : IsHit s test ix
    pub filed : finite.get hashes ix ≡ Some hash

  -- what a look-up under a hash may answer in any state: an index that is a hit under that hash, and `None` if and only
  -- if there is none
  abbrev pub Finds : Store T → FinMap nat_cmp ℕ → ℕ → (T → Bool) → Option ℕ → Type 0
  Finds s hashes hash test None = (ix : ℕ) → IsHitUnder s hashes hash test ix → ⊥
  Finds s hashes hash test (Some ix) = IsHitUnder s hashes hash test ix

module _ {T K : Type 0} (key_of : T → K) where
  module _ (hashing : Hashing K) where
    -- each live index is in the table under the hash of its item's key as it is now
    abbrev pub IsInPlace : Store T → FinMap nat_cmp ℕ → Type 0
    IsInPlace s hashes =
        (ix : ℕ) (item : T) → get s ix ≡ Some item → finite.get hashes ix ≡ Some (hashing.hash_of (key_of item))

    -- the table is in place, and no two items share a key
    abbrev pub IsInSync : Store T → FinMap nat_cmp ℕ → Type 0
    IsInSync s hashes = TableIsInSync key_of hashing.equal (IsInPlace s hashes) s

    -- what a call preserves if it changes no key of a live index
    abbrev pub Keeps : Store T → FinMap nat_cmp ℕ → Store T → FinMap nat_cmp ℕ → Type 0
    Keeps old old_hashes new new_hashes =
        TableKeeps key_of hashing.equal (IsInPlace old old_hashes) old (IsInPlace new new_hashes) new

  -- What a look-up under a hash by a test of keys answers: `found` holds in any state; if the table is in sync, and the
  -- query stands for one key, the answer is a scan's.
  pub record LooksUp (s : Store T) (hashes : FinMap nat_cmp ℕ) (hash : ℕ) (test : K → Bool) (result : Option ℕ)
      : Type 0 where
    pub found : Finds s hashes hash (passes_by key_of test) result
    pub as_scan :
        (hashing : Hashing K) → StandsForOne hashing hash test → IsInSync hashing s hashes
        → AnswersScan s (passes_by key_of test) result
