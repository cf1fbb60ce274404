-- How an ordered table of indexes relates to one key of a store's items. `order` is the table's list of indexes.
use Rattle.std.specs.Prelude.{◌≡◌, ◌≢◌, ◌≤◌, ℕ, List, length, insert, nat_eq, Option, Some, None}
use Rattle.std.specs.List.{Contains, IsDistinct}
use Rattle.std.specs.Ordering.{eq_by_cmp}
use Rattle.std.specs.declared.cmp.Ordering.{Ordering}
use Rattle.std.specs.declared.cmp.Ordering.TheVariants.{Less, Greater}
use Rattle.iddqd.specs.Store.{Store, get, next_index, inserted}
use Rattle.iddqd_order.specs.Entry.{entry_index, vacant_place}
use Rattle.iddqd_order.specs.MapBTreeTable.{without}
use Rattle.iddqd_order.specs.Search.{IsPlace}
use Rattle.iddqd_order.specs.declared.btree_table.entry.Entry.{Entry}
use Rattle.iddqd_order.specs.declared.btree_table.entry.Entry.TheVariants.{Occupied, Vacant}
pub use Rattle.iddqd_keys.specs.KeyWalk.{key_at, IsInPlace}
pub use Rattle.iddqd_keys.specs.OrderedQuery.{is_equal}
pub use Rattle.iddqd_keys.specs.Scan.{itself}
use Rattle.iddqd_keys.specs.Scan.{IsLive, IsHit, HasNoHit, passes_by}
use Rattle.iddqd_keys.specs.AnyTable.{HasExactly, TableIsInSync, TableKeeps, TableLooksUp}

-- `new` is `old` without the index that a look-up found, or `old` itself if it found none
abbrev pub Takes : List ℕ → Option ℕ → List ℕ → Type 0
Takes old (Some ix) new = new ≡ without old ix
Takes old None new = new ≡ old

-- the index was inserted among the others, at some place
pub record Adds (old : List ℕ) (ix : ℕ) (new : List ℕ) : Type 0 where
  pub place : ℕ
  pub within : place ≤ length old
  pub added : new ≡ insert old place ix

module _ {K : Type 0} (comparing : K → Ordering) where
  -- how the query compares with the key at an index; at an index that isn't live it counts as Greater
  abbrev pub compared : Option K → Ordering
  compared None = Greater
  compared (Some key) = comparing key

module _ {T : Type 0} where
  -- each index of the list is live
  abbrev pub AreLive : Store T → List ℕ → Type 0
  AreLive s order = (ix : ℕ) → Contains order ix → IsLive s ix

  -- the list has exactly the live indexes, each once
  pub record Holds (s : Store T) (order : List ℕ) : Type 0 where
    pub each : HasExactly s (Contains order)
    pub once : IsDistinct nat_eq order

module _ {T K : Type 0} (key_of : T → K) where
  module _ (compare : K → K → Ordering) where
    -- the list is in place, and no two items share a key
    abbrev pub IsInSync : Store T → List ℕ → Type 0
    IsInSync s order = TableIsInSync key_of (eq_by_cmp compare) (IsInPlace key_of compare s order) s

    -- what a call that changes no key of a live index preserves
    abbrev pub Keeps : Store T → List ℕ → Store T → List ℕ → Type 0
    Keeps old old_order new new_order =
        TableKeeps key_of (eq_by_cmp compare)
        (IsInPlace key_of compare old old_order) old (IsInPlace key_of compare new new_order) new

    -- what a look-up by a query may return in any state: an index that hits, or none; if the list is in place, none
    -- only if no index hits
    abbrev pub Finds : Store T → List ℕ → (K → Ordering) → Option ℕ → Type 0
    Finds s order comparing None = IsInPlace key_of compare s order → HasNoHit s (passes_by key_of (is_equal comparing))
    Finds s order comparing (Some ix) = IsHit s (passes_by key_of (is_equal comparing)) ix

    -- what a look-up by a query returns: what `Finds` allows; and if the table is in sync, what a scan returns
    abbrev pub LooksUp : Store T → List ℕ → (K → Ordering) → Option ℕ → Type 0
    LooksUp s order comparing result =
        TableLooksUp (Finds s order comparing result) (IsInSync s order)
        s (passes_by key_of (is_equal comparing)) result

    -- the index is live, and no live index has an item with a lesser key
    abbrev pub HasLeastKey : Store T → ℕ → Type 0
    HasLeastKey s ix =
        (item : T) × (get s ix ≡ Some item)
        × ((j : ℕ) (other : T) → get s j ≡ Some other → compare (key_of other) (key_of item) ≢ Less)

    -- the index is live, and no live index has an item with a greater key
    abbrev pub HasGreatestKey : Store T → ℕ → Type 0
    HasGreatestKey s ix =
        (item : T) × (get s ix ≡ Some item)
        × ((j : ℕ) (other : T) → get s j ≡ Some other → compare (key_of other) (key_of item) ≢ Greater)

    -- A look-up by a query missed, and this is the place for an index whose key the query stands for: if the list is in
    -- place, the query is Greater at each index before the place, and Less at each one from it on.
    pub record IsVacantAt (s : Store T) (order : List ℕ) (comparing : K → Ordering) (place : ℕ) : Type 0 where
      pub missed : LooksUp s order comparing None
      pub within : place ≤ length order
      pub is_place :
          IsInPlace key_of compare s order
          → IsPlace (λ ix. compared comparing (key_at key_of s ix)) order place

    -- an entry by a query is that of the index that a look-up found, or else a vacant one at the place where an index
    -- with that key belongs
    abbrev pub IsEntryOf : Store T → List ℕ → (K → Ordering) → Entry → Type 0
    IsEntryOf s order comparing (Occupied entry) = LooksUp s order comparing (Some (entry_index entry))
    IsEntryOf s order comparing (Vacant entry) = IsVacantAt s order comparing (vacant_place entry)

    -- the index that the store will give the item was inserted into the list; if the list was in place over the store,
    -- it is in place over the store with the item
    pub record AddsInPlace (s : Store T) (item : T) (old new : List ℕ) : Type 0 where
      pub adds : Adds old (next_index s) new
      pub placed : IsInPlace key_of compare s old → IsInPlace key_of compare (inserted s item) new

    -- these are the live indexes, each once, sorted by key, ties by index
    pub record IsSortedScan (s : Store T) (indexes : List ℕ) : Type 0 where
      pub holds : Holds s indexes
      pub placed : IsInPlace key_of compare s indexes
