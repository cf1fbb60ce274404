-- What the calls of a key index leave, however many keys it goes by.
use Rattle.std.specs.Prelude.{◌≡◌, ◌<◌, ℕ, Bool, true, not, Option, Some, None, Result, Ok, Err}
use Rattle.iddqd.specs.Store.{Store, IsValid, IsFull, empty_within, get, slot_count, next_index, inserted, removed}
use Rattle.iddqd.specs.Compaction.{compacted, IsRemapOf}
use Rattle.iddqd.specs.declared.index_remap.IndexRemap.{IndexRemap}
use Rattle.iddqd_keys.specs.Scan.{HasNoHit}
use Rattle.iddqd_map.specs.Several.{HasNoOther}

-- `old state s`: before the call the key index indexes the store under this state of the hasher; `new state s`: after
-- it
module _ {S T : Type 0} where
  -- it indexes each store that has no item
  abbrev pub IndexesNone : (S → Store T → Type 0) → Type 0
  IndexesNone new = (state : S) (limit : ℕ) → new state (empty_within limit)

  -- there is a store that it indexes, whose next index is this one
  abbrev pub IsNextOf : (S → Store T → Type 0) → ℕ → Type 0
  IsNextOf old ix = (state : S) × ((s : Store T) × old state s × IsValid s × (ix ≡ next_index s))

  -- there is an item for which this was planned
  abbrev pub IsPlannedForOne : (S → Store T → T → Type 0) → Type 0
  IsPlannedForOne planned = (state : S) × ((s : Store T) × ((item : T) × planned state s item))

  -- what was planned before the call, for any item of any store, still is
  abbrev pub StaysPlanned :
      {P : Type 0} → (S → Store T → T → P → Type 0) → (S → Store T → T → P → Type 0) → Type 0
  StaysPlanned {P} old new = (state : S) (s : Store T) (item : T) (plan : P) → old state s item plan
      → new state s item plan

  -- If the plan was made for an item that shares no key with those stored, and these are the hashes of its keys, the
  -- store with that item inserted is indexed.
  abbrev pub IndexesOneMore :
      {K P : Type 0} → (T → T → Bool) → (S → T → K → Type 0) → K → (S → Store T → T → P → Type 0) → P
      → (S → Store T → Type 0) → ℕ → (S → Store T → Type 0) → Type 0
  IndexesOneMore alike are_hashes hashes is_planned plan old ix new =
      (state : S) (s : Store T) (item : T) → old state s → IsValid s → (IsFull s → ⊥) → ix ≡ next_index s
      → HasNoHit s (alike item) → are_hashes state item hashes → is_planned state s item plan
      → new state (inserted s item)

  -- there is a store that it indexes, and the remap is that of the store
  abbrev pub IsRemapOfSome : (S → Store T → Type 0) → IndexRemap → Type 0
  IsRemapOfSome old remap = (state : S) × ((s : Store T) × old state s × IsValid s × IsRemapOf s remap)

  -- it indexes the compacted store
  abbrev pub IndexesCompacted : (S → Store T → Type 0) → IndexRemap → (S → Store T → Type 0) → Type 0
  IndexesCompacted old remap new =
      (state : S) (s : Store T) → old state s → IsValid s → IsRemapOf s remap → new state (compacted s)

  -- it indexes each store that was indexed before
  abbrev pub IndexesAllOf : (S → Store T → Type 0) → (S → Store T → Type 0) → Type 0
  IndexesAllOf old new = (state : S) (s : Store T) → old state s → new state s

  -- the index that was found, if one was, was removed
  abbrev pub TakesFound : (S → Store T → Type 0) → S → Store T → Option ℕ → Type 0
  TakesFound new state s (Some ix) = new state (removed s ix)
  TakesFound new state s None = new state s

  -- the store is sound, and it is indexed
  pub record IsIndexed (indexes : S → Store T → Type 0) (state : S) (s : Store T) : Type 0 where
    pub valid : IsValid s
    pub indexed : indexes state s

module _ {T : Type 0} where
  -- `Ok`: the position for an item that shares no key with another; `Err`: the items with which it shares a key
  abbrev pub FindsPosition :
      {P C : Type 0} → (T → T → Bool) → (Store T → T → P → Type 0) → (Store T → T → C → Type 0) → Store T → T
      → Result P C → Type 0
  FindsPosition alike is_position conflicts s item (Ok position) = HasNoHit s (alike item) × is_position s item position
  FindsPosition alike is_position conflicts s item (Err at) = conflicts s item at

  -- `Ok`: how a live index must move if its item is replaced, which it must unless all keys stay; `Err`: the other
  -- items that share a key with the new one.
  abbrev pub PlansMove :
      {P C : Type 0} → (T → Bool) → (T → Bool) → (P → Type 0) → (P → Bool) → (C → Type 0) → Store T → ℕ
      → Result P C → Type 0
  PlansMove alike same is_move moves taken s ix (Ok plan) =
      is_move plan × HasNoOther s alike ix × ((was : T) → get s ix ≡ Some was → moves plan ≡ not (same was))
  PlansMove alike same is_move moves taken s ix (Err at) = taken at

  -- the same by what a key index says of any item in place of this one
  abbrev pub FindsMove :
      {P C : Type 0} → (T → T → Bool) → (T → T → Bool) → (Store T → ℕ → T → P → Type 0) → (P → Bool)
      → (Store T → ℕ → T → C → Type 0) → Store T → ℕ → T → Result P C → Type 0
  FindsMove alike same is_move moves taken s ix item =
      PlansMove (alike item) (same item) (is_move s ix item) moves (taken s ix item) s ix

  -- the known hashes are those of the item at the index
  abbrev pub AreKnownAt : {H : Type 0} → (T → H → Type 0) → Store T → ℕ → H → Type 0
  AreKnownAt are_known s ix known = (item : T) → get s ix ≡ Some item → are_known item known

  -- the stores have equally many slots and the same live indexes, and their items at each index share all keys
  pub record HaveSameKeys (same : T → T → Bool) (s t : Store T) : Type 0 where
    pub items_of_t : (ix : ℕ) (y : T) → get t ix ≡ Some y → (x : T) × (get s ix ≡ Some x) × (same x y ≡ true)
    pub items_of_s : (ix : ℕ) (x : T) → get s ix ≡ Some x → (y : T) × (get t ix ≡ Some y) × (same x y ≡ true)
    pub as_many_slots : slot_count t ≡ slot_count s

-- the index is greater than `before`, or `before` is `None`
abbrev pub IsPast : Option ℕ → ℕ → Type 0
IsPast None ix = Unit {0}
IsPast (Some before) ix = before < ix

-- the least reported index past `before`; `None` if there is none
abbrev pub IsNextReported : (ℕ → Type 0) → Option ℕ → Option ℕ → Type 0
IsNextReported reported before None = (ix : ℕ) → reported ix → IsPast before ix → ⊥
IsNextReported reported before (Some next) =
    reported next × IsPast before next × ((ix : ℕ) → reported ix → IsPast before ix → (ix < next → ⊥))
