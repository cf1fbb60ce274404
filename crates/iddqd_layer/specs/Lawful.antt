-- What the owner of a layer knows if hashes and comparisons are lawful. The owner has the records, so `hash_of ix` is
-- the hash of the key of the record at an index, and `key ix` the key itself.
use Rattle.std.specs.Prelude.{◌≡◌, ℕ, Some}
use Rattle.std.specs.FinMap as finite
use Rattle.iddqd.specs.Store.{Store}
use Rattle.iddqd_hash.specs.HashTable.{Table}
use Rattle.iddqd_hash.specs.MapHashTable.{filed}
use Rattle.iddqd_keys.specs.Scan.{IsLive}

-- each live index is in the table under the hash of its record's key
pub record IsFiledByKey (s : Store (Unit {0})) (t : Table ℕ) (hash_of : ℕ → ℕ) : Type 0 where
  pub each : (ix : ℕ) → IsLive s ix → finite.get (filed t) ix ≡ Some (hash_of ix)
