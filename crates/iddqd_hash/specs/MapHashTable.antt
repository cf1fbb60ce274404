-- What a contract sees of a table of indexes under hashes.
use Rattle.std.specs.Prelude.{◌≡◌, ◌==◌, ℕ, Bool, false, List, Option, Some, None, IsSome, IsTrue, map, filter}
use Rattle.std.specs.Ordering.{nat_cmp, eq_by_cmp}
use Rattle.std.specs.List.{Contains, IsDistinct}
use Rattle.std.specs.FinMap as finite
use Rattle.std.specs.FinMap.{FinMap}
use Rattle.std.specs.Fn.{Shared}
use Rattle.iddqd_hash.specs.Asks.{LooksUp, Misses}
use Rattle.iddqd_hash.specs.HashTable.{Table, entries, values}

-- a pair of an index and its hash as a pair of the hash and the index, and vice versa
abbrev pub swapped : ℕ × ℕ → ℕ × ℕ
swapped e = (e.1, e.0)

-- the map from index to hash that these pairs of a hash and an index make
abbrev pub filed_from : List (ℕ × ℕ) → FinMap nat_cmp ℕ
filed_from es = finite.from_entries (map swapped es)

-- the hash under which each index is filed
unfoldable pub filed : Table ℕ → FinMap nat_cmp ℕ
filed t = filed_from (entries t)

-- no two pairs have the same index
abbrev pub IsDistinctlyFiled : List (ℕ × ℕ) → Type 0
IsDistinctlyFiled es = IsDistinct (eq_by_cmp nat_cmp) (values es)

-- the indexes that are filed under a hash
abbrev pub indexes_under : ℕ → FinMap nat_cmp ℕ → List ℕ
indexes_under hash m = map (λ e. e.0) (filter (λ e. e.1 == hash) (finite.entries m))

-- the indexes that are filed
abbrev pub indexes_of : FinMap nat_cmp ℕ → List ℕ
indexes_of m = map (λ e. e.0) (finite.entries m)

-- the hash and the index, as a pair, of each index that is filed
abbrev pub pairs_of : FinMap nat_cmp ℕ → List (ℕ × ℕ)
pairs_of m = map swapped (finite.entries m)

-- An ask of a look-up by a query: `lookup` returns a key for the index, and the answer is whether the query is
-- equivalent to that key. No closure changes its state, so there is one state, `tt`.
pub record AsksKey {F Q K : Type 0} (g : Shared F (ℕ × Unit {0}) K) (equivalent : Q → K → Bool)
    (lookup : F) (query : Q) (before : Unit {0}) (ix : ℕ) (answer : Bool) (after : Unit {0}) : Type 0 where
  pub key : K
  pub gives : g.post lookup (ix, tt) key
  pub is : answer ≡ equivalent query key

-- `g` says which keys `lookup` may return
module _ {F K : Type 0} (g : Shared F (ℕ × Unit {0}) K) where
  -- `lookup` may be called on each index under the hash
  abbrev pub CanLookUp : F → ℕ → Table ℕ → Type 0
  CanLookUp lookup hash t = (ix : ℕ) → Contains (indexes_under hash (filed t)) ix → g.pre lookup (ix, tt)

  -- what a look-up by a query among the indexes under a hash found
  abbrev pub LooksUpKey : {Q : Type 0} → (Q → K → Bool) → F → Q → ℕ → Table ℕ → Option ℕ → Type 0
  LooksUpKey equivalent lookup query hash t result =
      LooksUp (AsksKey g equivalent lookup query) tt (indexes_under hash (filed t)) result

  -- an ask of a look-up by a key: whether the key that `lookup` returns equals it
  abbrev pub AsksEqual : (K → K → Bool) → F → K → Unit {0} → ℕ → Bool → Unit {0} → Type 0
  AsksEqual eq lookup key = AsksKey g (λ k other. eq other k) lookup key

  -- a look-up by a key asked about each index under the hash, and each has another key
  abbrev pub MissesKey : (K → K → Bool) → F → K → ℕ → Table ℕ → Type 0
  MissesKey eq lookup key hash t = Misses (AsksEqual eq lookup key) tt (indexes_under hash (filed t))

-- What a search for an index under the hash that passes the test found: an index that does, or that there is none.
abbrev pub FindsWhere : (ℕ → Bool) → ℕ → FinMap nat_cmp ℕ → Option ℕ → Type 0
FindsWhere test hash m (Some ix) = (finite.get m ix ≡ Some hash) × IsTrue (test ix)
FindsWhere test hash m None = (ix : ℕ) → finite.get m ix ≡ Some hash → test ix ≡ false

-- each index has a name of its own: no two have the same
abbrev pub HaveOwnNames : (ℕ → ℕ) → FinMap nat_cmp ℕ → Type 0
HaveOwnNames name m = (i j : ℕ) → IsSome (finite.get m i) → IsSome (finite.get m j) → name i ≡ name j → i ≡ j

-- each index has its new name, under the same hash, and there is no other index
pub record Renames (name : ℕ → ℕ) (old new : FinMap nat_cmp ℕ) : Type 0 where
  pub each : (ix hash : ℕ) → finite.get old ix ≡ Some hash → finite.get new (name ix) ≡ Some hash
  pub no_other : (at hash : ℕ) → finite.get new at ≡ Some hash →
      (ix : ℕ) × (name ix ≡ at) × (finite.get old ix ≡ Some hash)

-- the index of this pair was removed from a table, and no other
pub record RemovesIndex (old : Table ℕ) (pair : Option (ℕ × ℕ)) (new : Table ℕ) : Type 0 where
  pub hash : ℕ
  pub ix : ℕ
  pub is_pair : pair ≡ Some (hash, ix)
  pub others_stay : filed new ≡ finite.remove (filed old) ix
