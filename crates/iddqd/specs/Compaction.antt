-- What compaction does to a store: each live index becomes its rank.
use Rattle.std.specs.Prelude.{◌≡◌, ◌≢◌, ℕ, zero, suc, ◌<◌, List, [], ◌∷◌, length, take, map, filter, is_some, count_by, slice_index, if◌then◌else◌, ⊤}
use Rattle.iddqd.specs.Store.{Store, get}
pub use Rattle.iddqd.specs.Store.{sentinel}
use Rattle.iddqd.specs.declared.index_remap.IndexRemap.{IndexRemap}
use Rattle.iddqd.specs.declared.index_remap.IndexRemap.TheVariants.{Identity, Permuted}

-- the old index has a new one
abbrev pub CanRemap : IndexRemap → ℕ → Type 0
CanRemap Identity old = ⊤
CanRemap (Permuted names) old = (old < length names.items) × (slice_index names.items old ≢ sentinel)

-- the new index of an old one, if it has one
abbrev pub remapped : IndexRemap → ℕ → ℕ
remapped Identity old = old
remapped (Permuted names) old = slice_index names.items old

-- a clone of `Identity` is `Identity`, and one of `Permuted` has the same new indexes
abbrev pub IsRemapClone : IndexRemap → IndexRemap → Type 0
IsRemapClone Identity copy = copy ≡ Identity
IsRemapClone (Permuted names) copy = ForPermuted copy
  where
    ForPermuted : IndexRemap → Type 0
    ForPermuted Identity = ⊥
    ForPermuted (Permuted others) = others.items ≡ names.items

-- the first n numbers, from 0 on
abbrev pub numbers : ℕ → List ℕ
numbers zero = []
numbers (suc n) = 0 ∷ map suc (numbers n)

module _ {T : Type 0} where
  -- the number of live indexes below an index
  abbrev pub rank : Store T → ℕ → ℕ
  rank s ix = count_by is_some (take ix s.items)

  -- the live items in their order, and nothing free
  abbrev pub compacted : Store T → Store T
  compacted s = record s { items = filter is_some s.items; free = [] }

  -- the new index of a slot: its rank if it is live, otherwise `SENTINEL`
  abbrev pub new_name : Store T → ℕ → ℕ
  new_name s ix = if is_some (get s ix) then rank s ix else sentinel

  -- The remap of a store: `Identity` if no index is free, otherwise the new indexes of all slots.
  abbrev pub IsRemapOf : Store T → IndexRemap → Type 0
  IsRemapOf s Identity = s.free ≡ []
  IsRemapOf s (Permuted names) = (s.free ≢ []) × (names.items ≡ map (new_name s) (numbers (length s.items)))
