-- How an `ItemSet` lays out its slots: the chain of the vacant ones. Of the public clauses, only those of `ItemSlot`
-- and `validate_slots` cite it.
use Rattle.std.specs.Prelude.{◌≡◌, ◌≢◌, ℕ, zero, suc, ◌+◌, ◌≤◌, List, [], ◌∷◌, map, length, Option, Some, None, is_some, count_by, slice_get, nat_eq}
use Rattle.std.specs.List.{Contains, IsDistinct}
use Rattle.iddqd.specs.Store.{Store, sentinel}
use Rattle.iddqd.specs.LiveItems.{pairs_from}
use Rattle.iddqd.specs.declared.item_set.ItemSlot.{ItemSlot}
use Rattle.iddqd.specs.declared.item_set.ItemSlot.TheVariants.{Occupied, Vacant}

-- the head and then what its link leads to, if it has a link
abbrev pub linked : Option ℕ → ℕ → (ℕ → List ℕ) → List ℕ
linked None head rest = []
linked (Some next) head rest = head ∷ rest next

module _ {T : Type 0} where
  -- the item of a slot, if it has one
  abbrev pub item_of : ItemSlot T → Option T
  item_of (Occupied item) = Some item
  item_of (Vacant next) = None

  -- the link of a slot that is vacant
  abbrev pub link_of : Option (ItemSlot T) → Option ℕ
  link_of None = None
  link_of (Some (Occupied item)) = None
  link_of (Some (Vacant next)) = Some next

  -- the vacant slots along the links from head on, at most this number
  abbrev pub chain_of : ℕ → List (ItemSlot T) → ℕ → List ℕ
  chain_of zero slots head = []
  chain_of (suc n) slots head = linked (link_of (slice_get slots head)) head (λ next. chain_of n slots next)

  -- the list is the chain from head to its end: indexes of vacant slots, each the link of the one before
  abbrev pub IsChain : List (ItemSlot T) → ℕ → List ℕ → Type 0
  IsChain slots head [] = head ≡ sentinel
  IsChain slots head (ix ∷ rest) =
      (next : ℕ) × (ix ≡ head) × (head ≢ sentinel) × (slice_get slots head ≡ Some (Vacant next))
      × IsChain slots next rest

  -- some list with this number of indexes is the chain from head
  abbrev pub HasChain : List (ItemSlot T) → ℕ → ℕ → Type 0
  HasChain slots head len = (list : List ℕ) × IsChain slots head list × (length list ≡ len)

  -- what a contract sees of these slots, this head and this limit
  abbrev pub store_of : List (ItemSlot T) → ℕ → ℕ → Store T
  store_of slots head limit =
      record { items = map item_of slots; free = chain_of (length slots) slots head; limit = limit }

  -- some list of distinct indexes is the chain from `head` and has each vacant slot, and `len` counts the items
  pub record IsSound (slots : List (ItemSlot T)) (head len : ℕ) : Type 0 where
    pub counted : len ≡ count_by is_some (map item_of slots)
    pub chain : List ℕ
    pub distinct : IsDistinct nat_eq chain
    pub chained : IsChain slots head chain
    pub complete : (ix next : ℕ) → slice_get slots ix ≡ Some (Vacant next) → Contains chain ix

  -- they are sound, there are at most `limit` slots, and the limit leaves each slot an index
  pub record IsSoundWithin (limit : ℕ) (slots : List (ItemSlot T)) (head len : ℕ) : Type 0 where
    pub sound : IsSound slots head len
    pub small : length slots ≤ limit
    pub named : limit ≤ sentinel

  -- an iterator has these slots left; the index of the first slot is `first`, and `left` counts the items
  pub record IsSlotWalk (slots : List (ItemSlot T)) (first left : ℕ) : Type 0 where
    pub counted : left ≡ length (pairs_from first (map item_of slots))
    pub named : first + length slots ≤ sentinel
