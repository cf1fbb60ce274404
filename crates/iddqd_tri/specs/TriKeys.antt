-- The three keys that items contain, and how those are compared and hashed.
use Rattle.std.specs.Prelude.{ℕ, Bool, List}
use Rattle.std.specs.declared.hash.Hasher as hasher
use Rattle.std.specs.declared.hash.BuildHasher as builder
use Rattle.iddqd.specs.MapHash.{hash_one}
use Rattle.iddqd_by_hash.specs.Hashed.{Hashing}
use Rattle.iddqd_keys.specs.declared.tri_hash_item.TriHashItem.{Ghosts}

-- one thing for each of the three keys
pub record Three (A : Type 0) : Type 0 where
  pub first : A
  pub second : A
  pub third : A

-- a key of an item: how it is read from the item, when two are equal, and the hash of one under a state of the hasher
pub record ItemKey (T K S : Type 0) : Type 0 where
  pub key_of : T → K
  pub equal : K → K → Bool
  pub hash_in : S → K → ℕ

pub record TriKeys (T K1 K2 K3 S : Type 0) : Type 0 where
  pub first : ItemKey T K1 S
  pub second : ItemKey T K2 S
  pub third : ItemKey T K3 S

-- a key, from the ghost members of its traits (its reader, `eq`, `hash_input`) and those of the hasher's traits
abbrev pub item_key :
    {T K S H : Type 0} → builder.Ghosts S H → hasher.Ghosts H → (T → K) → (K → K → Bool) → (K → List (List ℕ))
    → ItemKey T K S
item_key b h key_of equal hash_input =
    record { key_of = key_of; equal = equal; hash_in = λ state key. hash_one b h state (hash_input key) }

-- the three keys, from the ghost members of their traits and of the hasher's
abbrev pub tri_keys_of :
    {T K1 K2 K3 S H : Type 0} → Ghosts T K1 K2 K3 → (K1 → K1 → Bool) → (K1 → List (List ℕ)) → (K2 → K2 → Bool)
    → (K2 → List (List ℕ)) → (K3 → K3 → Bool) → (K3 → List (List ℕ)) → builder.Ghosts S H → hasher.Ghosts H
    → TriKeys T K1 K2 K3 S
tri_keys_of item equal1 input1 equal2 input2 equal3 input3 b h =
    record {
      first = item_key b h item.first_key equal1 input1;
      second = item_key b h item.second_key equal2 input2;
      third = item_key b h item.third_key equal3 input3;
    }

module _ {T K S : Type 0} (key : ItemKey T K S) where
  -- how the key is compared and hashed under a state of the hasher
  abbrev pub hashing_in : S → Hashing K
  hashing_in hasher = record { equal = key.equal; hash_of = key.hash_in hasher }

  -- the items share this key
  abbrev pub shares : T → T → Bool
  shares x y = key.equal (key.key_of x) (key.key_of y)

-- the hash of each key of an item
abbrev pub hashes_in : {T K1 K2 K3 S : Type 0} → TriKeys T K1 K2 K3 S → S → T → Three ℕ
hashes_in keys hasher item =
    record {
      first = keys.first.hash_in hasher (keys.first.key_of item);
      second = keys.second.hash_in hasher (keys.second.key_of item);
      third = keys.third.hash_in hasher (keys.third.key_of item);
    }
