-- The indexes that are filed under a hash and whose items' keys match a query.
use Rattle.std.specs.Prelude.{◌≡◌, ◌↔◌, ◌∷◌, ℕ, Bool, List, [], Option, Some, None, filter, nat_eq}
use Rattle.std.specs.List.{Contains, IsDistinct}
use Rattle.std.specs.Ordering.{nat_cmp}
use Rattle.std.specs.FinMap.{FinMap}
use Rattle.iddqd.specs.Store.{Store, removed}
use Rattle.iddqd_keys.specs.Scan.{IsHit, passes_by}
use Rattle.iddqd_by_hash.specs.Hashed.{Hashing, HaveHash, IsHitUnder, IsInPlace, passes}
use Rattle.iddqd_groups.specs.LinkedTable.{LinkedState, behind}
use Rattle.iddqd_map.specs.Groups.{listed_from}

module _ {T : Type 0} where
  -- the live indexes of the list whose items pass, in the order of the list
  abbrev pub hits_among : Store T → (T → Bool) → List ℕ → List ℕ
  hits_among s test indexes = filter (passes s test) indexes

  -- the indexes behind an index whose items pass, in the order of an iteration
  abbrev pub hits_behind : LinkedState → Store T → (T → Bool) → ℕ → List ℕ
  hits_behind t s test ix = hits_among s test (behind t ix)

  -- what came behind the index before it was removed are the next index and what comes behind that now
  abbrev pub StepsPast : LinkedState → Store T → (T → Bool) → ℕ → LinkedState → Option ℕ → Type 0
  StepsPast old s test ix new next =
      hits_behind old s test ix ≡ listed_from (hits_behind new (removed s ix) test) next

  -- The hits among `indexes` are the index found and then those among `behind`. If none is found, neither list has one.
  abbrev pub FindsFirst : Store T → (T → Bool) → List ℕ → Option ℕ → List ℕ → Type 0
  FindsFirst s test indexes None behind = (hits_among s test indexes ≡ []) × (hits_among s test behind ≡ [])
  FindsFirst s test indexes (Some ix) behind = hits_among s test indexes ≡ ix ∷ hits_among s test behind

-- Exactly the indexes under `hash` whose items' keys pass the test, each once. If the table is in place, and all keys
-- that pass have this hash, these are exactly the indexes whose items' keys pass.
pub record IsGroupOf
    {T K : Type 0} (key_of : T → K) (s : Store T) (hashes : FinMap nat_cmp ℕ) (hash : ℕ) (test : K → Bool)
    (indexes : List ℕ) : Type 0 where
  pub once : IsDistinct nat_eq indexes
  pub each : (ix : ℕ) → Contains indexes ix ↔ IsHitUnder s hashes hash (passes_by key_of test) ix
  pub as_scan :
      (hashing : Hashing K) → HaveHash hashing hash test → IsInPlace key_of hashing s hashes
      → (ix : ℕ) → Contains indexes ix ↔ IsHit s (passes_by key_of test) ix
