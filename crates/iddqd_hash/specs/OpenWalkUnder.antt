-- The state of an iterator over the values under one hash, in a table with open addressing.
use Rattle.std.specs.Prelude.{◌+◌, ◌-◌, ◌%◌, ◌≤◌, ◌++◌, ℕ, List, [], Option, Some, None, length, take, drop}
use Rattle.std.specs.Option.{ForSome}
use Rattle.iddqd_hash.specs.HashTable.{under}
use Rattle.iddqd_hash.specs.OpenTable.{IsPowerOfTwo, HasEmpty, IsReached, IsProbed, pairs}

-- a list from the home of a hash on; after its last item comes its first
abbrev pub from_home : {X : Type 0} → ℕ → List X → List X
from_home hash xs = drop (hash % length xs) xs ++ take (hash % length xs) xs

-- how many steps a probe takes from the home of a hash to a place, among `count` places
abbrev pub steps_to : ℕ → ℕ → ℕ → ℕ
steps_to count hash place = (place + (count - hash % count)) % count

-- a probe for a hash comes to a place, and later to an empty cell
pub record GoesOn (tags : List ℕ) (hash place : ℕ) : Type 0 where
  pub power : IsPowerOfTwo (length tags)
  pub ends : HasEmpty tags
  pub reached : IsReached tags hash place

module _ {T : Type 0} where
  -- the values under a hash from a place on, up to the last place before the home; none if the iterator has ended
  abbrev pub rest_under : ℕ → List (Option (ℕ × T)) → Option ℕ → List T
  rest_under hash slots None = []
  rest_under hash slots (Some place) =
      under hash (pairs (drop (steps_to (length slots) hash place) (from_home hash slots)))

  -- the iterator goes on at the place `from`, or has ended if that is `None`, and at most `most` values are to come
  pub record IsWalkUnder (tags : List ℕ) (slots : List (Option (ℕ × T))) (hash : ℕ) (from : Option ℕ) (most : ℕ)
      : Type 0 where
    pub probed : IsProbed tags slots
    pub goes_on : ForSome from (λ place. GoesOn tags hash place)
    pub counted : length (rest_under hash slots from) ≤ most
