-- What a check of keyed items finds.
use Rattle.std.specs.Prelude.{◌≡◌, ◌<◌, ℕ, Bool, List, Some, Result, Ok, Err, IsSome}
use Rattle.std.specs.Borrow.{Bor}
use Rattle.std.specs.List.{Contains}
use Rattle.std.specs.List.Sorted.{IsStrictlySortedBy}
use Rattle.std.specs.Option.{option_cmp}
use Rattle.std.specs.Ordering.{nat_cmp, on}
use Rattle.std.specs.declared.cmp.Ordering.{Ordering}
use Rattle.std.specs.FinMap as finite
use Rattle.std.specs.FinMap.{FinMap}
use Rattle.iddqd.specs.declared.internal.ValidateRefusal.{ValidateRefusal}
use Rattle.iddqd.specs.declared.internal.ValidateRefusal.TheVariants.{Invalid, Memory}
use Rattle.iddqd.specs.declared.internal.ValidationError.{ValidationError}
use Rattle.iddqd.specs.declared.internal.ValidationError.TheVariants.{Table}
use Rattle.iddqd.specs.Store.{Store}
use Rattle.iddqd_keys.specs.KeyWalk.{key_at}
use Rattle.iddqd_keys.specs.Scan.{IsLive, passes_by}
use Rattle.iddqd_by_hash.specs.Hashed.{IsHitUnder}
use Rattle.iddqd_driver.specs.Keys.{Keys}
use Rattle.iddqd_driver.specs.KeyIndexes.{hash_in}
use Rattle.iddqd_driver.specs.State.{State}

-- the result of a table's check, with the table's name in an error
abbrev pub with_table_name :
    Bor (List ℕ)
    → Result (Unit {0}) (ValidateRefusal (List ℕ))
    → Result (Unit {0}) (ValidateRefusal ValidationError)
with_table_name name (Ok passed) = Ok passed
with_table_name name (Err (Invalid error)) = Err (Invalid (Table name error))
with_table_name name (Err (Memory error)) = Err (Memory error)

-- both tables have each live index
abbrev pub AreStored : {T : Type 0} → Store T → FinMap nat_cmp ℕ → List ℕ → Type 0
AreStored s hashes order = (ix : ℕ) → IsLive s ix → IsSome (finite.get hashes ix) × Contains order ix

-- a lesser index is filed under the hash, and its item passes the test
abbrev pub HasLesserHit : {T : Type 0} → Store T → FinMap nat_cmp ℕ → ℕ → (T → Bool) → ℕ → Type 0
HasLesserHit s hashes hash test ix = (j : ℕ) × (j < ix) × IsHitUnder s hashes hash test j

-- the index is filed under the hash of this first key, and no lesser index with an equal first key is
pub record IsFoundAlone {T K1 K2 S : Type 0} (keys : Keys T K1 K2 S) (s : State T S) (ix : ℕ) (key : K1)
    : Type 0 where
  pub filed : finite.get s.filed ix ≡ Some (hash_in keys s key)
  pub alone :
      HasLesserHit s.store s.filed (hash_in keys s key) (passes_by keys.first (keys.equal_first key)) ix → ⊥

module _ {T K : Type 0} (key_of : T → K) (compare : K → K → Ordering) where
  -- how the keys of the items at two indexes compare; an index that isn't live comes first
  abbrev pub by_key : Store T → ℕ → ℕ → Ordering
  by_key s = on (key_at key_of s) (option_cmp compare)

  -- along the list each key is greater than those before it
  abbrev pub KeysRise : Store T → List ℕ → Type 0
  KeysRise s order = IsStrictlySortedBy (by_key s) order
