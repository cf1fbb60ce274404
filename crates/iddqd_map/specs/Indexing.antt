-- A table of indexes under hashes whose look-ups return what a scan of the store's items would.
use Rattle.std.specs.Prelude.{◌≡◌, ◌≢◌, ℕ, Bool, Option, Some, IfSome, Result, Ok, Err}
use Rattle.std.specs.Ordering.{nat_cmp}
use Rattle.std.specs.FinMap.{FinMap}
use Rattle.iddqd.specs.Store.{Store}
use Rattle.iddqd_keys.specs.Scan.{IsHit, HasNoHit, AnswersScan, passes_by}
use Rattle.iddqd_by_hash.specs.Hashed.{Hashing, Holds, IsInSync}
use Rattle.iddqd_by_hash.specs.declared.hashed_move.Move.{Move}
use Rattle.iddqd_by_hash.specs.declared.hashed_move.Move.TheVariants.{Stays, To}

module _ {T K : Type 0} (key_of : T → K) (hashing : Hashing K) where
  -- the item has the key of this one
  abbrev pub shares_key : T → T → Bool
  shares_key item = passes_by key_of (hashing.equal (key_of item))

  -- The table has exactly the live indexes, each under the hash of its item's key as it is now, and no two items share
  -- a key.
  pub record Indexes (s : Store T) (m : FinMap nat_cmp ℕ) : Type 0 where
    pub held : Holds s m
    pub in_sync : IsInSync key_of hashing s m

  -- the hash, if it is known, is that of the item's key
  abbrev pub IsKnownHash : T → Option ℕ → Type 0
  IsKnownHash item known = IfSome known (λ hash. hash ≡ hashing.hash_of (key_of item))

  -- How a live index must move if its item is replaced by this one: it stays if the key stays; otherwise no item has
  -- the key, and it goes under the key's hash.
  abbrev pub Plans : Store T → ℕ → T → Move → Type 0
  Plans s ix item Stays = IsHit s (shares_key item) ix
  Plans s ix item (To hash) = HasNoHit s (shares_key item) × (hash ≡ hashing.hash_of (key_of item))

  -- the plan, or the index of another item that has the key
  abbrev pub PlansOrConflicts : Store T → ℕ → T → Result Move ℕ → Type 0
  PlansOrConflicts s ix item (Ok plan) = Plans s ix item plan
  PlansOrConflicts s ix item (Err at) = (at ≢ ix) × AnswersScan s (shares_key item) (Some at)
