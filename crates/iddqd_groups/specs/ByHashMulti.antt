-- An index by the hash of a key that several items may have.
use Rattle.std.specs.Prelude.{◌≡◌, ℕ, min, max}
use Rattle.iddqd.specs.Store.{Store, slot_count}
use Rattle.iddqd_by_hash.specs.Hashed.{Hashing}
use Rattle.iddqd_groups.specs.LinkedTable.{LinkedState, needed_linked}
use Rattle.iddqd_map.specs.Files.{Files}

-- the tables have the same indexes under the same hashes, and as many slots have a link
pub record HasSameIndexes (old new : LinkedState) : Type 0 where
  pub filed : new.filed ≡ old.filed
  pub slots : new.slots ≡ old.slots

-- the fewest cells and links that do for what a shrink to `least` leaves room for, beside a store of so many slots and
-- items
abbrev pub needed_after : LinkedState → (least slots count : ℕ) → ℕ
needed_after t least slots count =
    let kept = min t.capacity (max least count) in
    needed_linked (max slots kept) kept

module _ {T K : Type 0} (key_of : T → K) (hashing : Hashing K) where
  -- the table has exactly the live indexes, under these hashes, and a link for each slot of the store and for no other
  pub record FilesWithin (s : Store T) (t : LinkedState) : Type 0 where
    pub files : Files key_of hashing s t.filed
    pub linked : t.slots ≡ slot_count s
