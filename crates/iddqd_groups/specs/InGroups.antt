-- Reads of a group by hash.
use Rattle.std.specs.Prelude.{◌≡◌, ℕ, Bool, List}
use Rattle.iddqd.specs.Store.{Store}
use Rattle.iddqd_keys.specs.KeyWalk.{pairs_at}
use Rattle.iddqd_map.specs.Groups.{AreHits}

-- these are exactly the live indexes whose items pass with their items, each once, in any order
pub record ListsHits {T : Type 0} (test : T → Bool) (s : Store T) (pairs : List (ℕ × T)) : Type 0 where
  pub indexes : List ℕ
  pub hits : AreHits s test indexes
  pub with_items : pairs ≡ pairs_at s indexes
