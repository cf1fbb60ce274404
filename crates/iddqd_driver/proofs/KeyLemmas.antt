-- Lawful keys.
use Rattle.std.proofs.Common.{◌≡◌, ℕ, Bool, IsTrue, List, Ordering}
use Rattle.std.specs.Cmp.{IsPartialEquivalence, IsTotalOrder}
use Rattle.std.specs.declared.hash.Hasher as hasher
use Rattle.std.specs.declared.hash.BuildHasher as builder
use Rattle.iddqd_by_hash.specs.Hashed.{IsLawful}
use Rattle.iddqd_by_hash.proofs.FindLemmas.{IsLawful-from_bounds}
use Rattle.iddqd_driver.specs.Keys.{Keys, keys_of, first_hashing}
use Rattle.iddqd_driver.specs.declared.keyed_item.KeyedItem.{Ghosts}

-- first keys are lawful under each state of the hasher, and second keys are totally ordered
pub record AreLawful {T K1 K2 S : Type 0} (keys : Keys T K1 K2 S) : Type 0 where
  pub first : (state : S) → IsLawful (first_hashing keys state)
  pub second : IsTotalOrder keys.compare_second

-- keys whose bounds keep their laws
module _ {T K1 K2 S H : Type 0} {item : Ghosts T K1 K2} {equal : K1 → K1 → Bool} {hash_input : K1 → List (List ℕ)}
    {compare : K2 → K2 → Ordering} (b : builder.Ghosts S H) (h : hasher.Ghosts H) where
  pub AreLawful-from_bounds :
      IsPartialEquivalence equal → ((x y : K1) → IsTrue (equal x y) → hash_input x ≡ hash_input y)
      → IsTotalOrder compare → AreLawful (keys_of item equal hash_input compare b h)
  AreLawful-from_bounds equivalence respects total = record {
    first = λ state. IsLawful-from_bounds equal hash_input b h state equivalence respects;
    second = total;
  }
