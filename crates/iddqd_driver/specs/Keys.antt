-- The keys that items contain, and how those are compared and hashed.
use Rattle.std.specs.Prelude.{◌≡◌, Bool, ℕ, List}
use Rattle.std.specs.Ordering.{eq_by_cmp}
use Rattle.std.specs.declared.cmp.Ordering.{Ordering}
use Rattle.std.specs.Hash.FoldHasher.{initial}
use Rattle.std.specs.Hash.BuildHasherDefault.{initial_hasher}
use Rattle.std.specs.declared.hash.FoldHasher.{FoldHasher}
use Rattle.std.specs.declared.hash.BuildHasherDefault.{BuildHasherDefault}
use Rattle.std.specs.declared.hash.Hasher as hasher
use Rattle.std.specs.declared.hash.BuildHasher as builder
use Rattle.iddqd.specs.MapHash.{hash_one}
use Rattle.iddqd_by_hash.specs.Hashed.{Hashing}
use Rattle.iddqd_driver.specs.declared.keyed_item.KeyedItem.{Ghosts}

-- which keys an item has, when two first keys are equal, how two second keys compare, and the hash of a first key
-- under a state of the hasher
pub record Keys (T K1 K2 S : Type 0) : Type 0 where
  pub first : T → K1
  pub second : T → K2
  pub equal_first : K1 → K1 → Bool
  pub compare_second : K2 → K2 → Ordering
  pub hash_first : S → K1 → ℕ

-- the keys, from the ghost members of their traits and of the hasher's
abbrev pub keys_of :
    {T K1 K2 S H : Type 0} → Ghosts T K1 K2 → (K1 → K1 → Bool) → (K1 → List (List ℕ)) → (K2 → K2 → Ordering)
    → builder.Ghosts S H → hasher.Ghosts H → Keys T K1 K2 S
keys_of item equal hash_input compare b h =
    record {
      first = item.first_key;
      second = item.second_key;
      equal_first = equal;
      compare_second = compare;
      hash_first = λ state key. hash_one b h state (hash_input key);
    }

module _ {T K1 K2 S : Type 0} (keys : Keys T K1 K2 S) where
  -- how first keys are compared and hashed under a state of the hasher
  abbrev pub first_hashing : S → Hashing K1
  first_hashing hasher = record { equal = keys.equal_first; hash_of = keys.hash_first hasher }

  -- when two second keys are equal
  abbrev pub equal_second : K2 → K2 → Bool
  equal_second = eq_by_cmp keys.compare_second

-- the state of the default build hasher
abbrev pub IsDefaultHasher : BuildHasherDefault FoldHasher → Type 0
IsDefaultHasher hasher = initial_hasher hasher ≡ initial
