-- A table of indexes under the hashes of a key that several items may have.
use Rattle.std.specs.Prelude.{◌≡◌, ℕ}
use Rattle.std.specs.Ordering.{nat_cmp}
use Rattle.std.specs.FinMap.{FinMap}
use Rattle.iddqd.specs.Store.{Store}
use Rattle.iddqd_keys.specs.Scan.{IsHit}
use Rattle.iddqd_keys.specs.AnyTable.{ChangesAt}
use Rattle.iddqd_by_hash.specs.Hashed.{Hashing, Holds, IsInPlace}
use Rattle.iddqd_by_hash.specs.declared.hashed_move.Move.{Move}
use Rattle.iddqd_by_hash.specs.declared.hashed_move.Move.TheVariants.{Stays, To}
use Rattle.iddqd_map.specs.Indexing.{shares_key}

module _ {T K : Type 0} (key_of : T → K) (hashing : Hashing K) where
  -- the map has exactly the live indexes, each under the hash of its item's key as it is now
  pub record Files (s : Store T) (m : FinMap nat_cmp ℕ) : Type 0 where
    pub held : Holds s m
    pub placed : IsInPlace key_of hashing s m

  -- a live index stays exactly where its item's key does, and else is filed under the hash of the new key
  abbrev pub IsMoveFor : Store T → ℕ → T → Move → Type 0
  IsMoveFor s ix item Stays = IsHit s (shares_key key_of hashing item) ix
  IsMoveFor s ix item (To hash) = ChangesAt key_of hashing.equal s ix item × (hash ≡ hashing.hash_of (key_of item))
