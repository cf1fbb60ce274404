-- The store: items under indexes, and the indexes that are free.
use Rattle.std.specs.Prelude.{◌≡◌, ◌≤◌, ◌<◌, ◌+◌, ◌↔◌, ℕ, List, length, [], ◌∷◌, ◌++◌, drop, Option, Some, None, is_some, count_by, slice_index_or, slice_set, nat_eq, refl}
use Rattle.std.specs.List.{Contains, IsDistinct}
use Rattle.std.specs.Coded.{Coded, code_by, coded×, coded_ℕ, coded_list, coded_option}

-- the number of `ItemIndex::SENTINEL`, the one number that is never an index
abbrev pub sentinel : ℕ
sentinel = 4294967295

-- the most slots that any store can have: one for each index below `SENTINEL`
abbrev pub slot_limit : ℕ
slot_limit = sentinel

-- A finite map from indexes to items. `items` has one entry for each slot: its item or nothing. `free` has the free
-- indexes, the last freed first. `limit` is the most slots that the store can have; no step changes it.
pub record Store (T : Type 0) : Type 0 where
  pub items : List (Option T)
  pub free : List ℕ
  pub limit : ℕ

-- a store is coded as its fields
abbrev pub store_code : {T : Type 0} → Coded T → Coded (Store T)
store_code {T} code =
    code_by
    (List (Option T) × (List ℕ × ℕ))
    (coded× (coded_list (coded_option code)) (coded× (coded_list coded_ℕ) coded_ℕ))
    (λ s. (s.items, (s.free, s.limit)))
    (λ p. record { items = p.0; free = p.1.0; limit = p.1.1 })
    (λ _. refl)

-- the first of the free indexes, or the number of slots if none is free
abbrev pub first_or : List ℕ → ℕ → ℕ
first_or [] count = count
first_or (ix ∷ rest) count = ix

module _ {T : Type 0} where
  -- the store of a new set with this limit
  abbrev pub empty_within : ℕ → Store T
  empty_within limit = record { items = []; free = []; limit = limit }

  -- the store of a new set for which no limit is given
  abbrev pub empty : Store T
  empty = empty_within slot_limit

  -- the store without its items and slots; the limit stays
  abbrev pub cleared : Store T → Store T
  cleared s = record s { items = []; free = [] }

  -- the item at an index, if it is live
  abbrev pub get : Store T → ℕ → Option T
  get s ix = slice_index_or s.items ix None

  -- the number of slots, live and vacant
  abbrev pub slot_count : Store T → ℕ
  slot_count s = length s.items

  -- the number of live indexes
  abbrev pub live_count : Store T → ℕ
  live_count s = count_by is_some s.items

  -- the index is that of a slot without an item
  abbrev pub IsVacant : Store T → ℕ → Type 0
  IsVacant s ix = (ix < slot_count s) × (get s ix ≡ None)

  -- The free indexes are distinct and exactly the vacant ones. There are no more slots than the limit, and the limit
  -- leaves each slot an index.
  pub record IsValid (s : Store T) : Type 0 where
    pub distinct : IsDistinct nat_eq s.free
    pub vacant : (ix : ℕ) → Contains s.free ix ↔ IsVacant s ix
    pub counted : live_count s + length s.free ≡ slot_count s
    pub small : slot_count s ≤ s.limit
    pub named : s.limit ≤ slot_limit

  -- the index that the next insert assigns
  abbrev pub next_index : Store T → ℕ
  next_index s = first_or s.free (slot_count s)

  -- no index is free, and there are as many slots as the limit
  abbrev pub IsFull : Store T → Type 0
  IsFull s = (s.free ≡ []) × (slot_count s ≡ s.limit)

  -- the items after an insert at the first free index, or in a new slot if no index is free
  abbrev pub filled : List ℕ → List (Option T) → T → List (Option T)
  filled [] items item = items ++ Some item ∷ []
  filled (ix ∷ rest) items item = slice_set items ix (Some item)

  -- the store after an insert: the next index is bound and no longer free
  abbrev pub inserted : Store T → T → Store T
  inserted s item = record s { items = filled s.free s.items item; free = drop 1 s.free }

  -- the store after the removal of a live index, which is then unbound and the first of the free indexes
  abbrev pub removed : Store T → ℕ → Store T
  removed s ix = record s { items = slice_set s.items ix None; free = ix ∷ s.free }

  -- the store with the item at a live index replaced
  abbrev pub rebound : Store T → ℕ → T → Store T
  rebound s ix item = record s { items = slice_set s.items ix (Some item) }
