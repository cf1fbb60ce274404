-- The state of keyed items: the hasher's state, the store, and what both tables hold.
use Rattle.std.specs.Prelude.{◌≡◌, ℕ, List, [], map, nat_eq, refl}
use Rattle.std.specs.List.{Contains, IsDistinct}
use Rattle.std.specs.Ordering.{nat_cmp}
use Rattle.std.specs.FinMap as finite
use Rattle.std.specs.FinMap.{FinMap}
use Rattle.std.specs.Coded.{Coded, code_by, coded×, coded_ℕ, coded_list}
use Rattle.iddqd.specs.Store.{Store, store_code, IsValid, live_count, slot_limit, empty_within, cleared, removed}
use Rattle.iddqd.specs.Compaction.{compacted, rank}
use Rattle.iddqd_hash.specs.HashTable.{Table}
use Rattle.iddqd_hash.specs.MapHashTable.{filed, Renames}
use Rattle.iddqd_order.specs.MapBTreeTable.{Order, order_of, without}
use Rattle.iddqd_keys.specs.AnyTable.{HasExactly}
use Rattle.iddqd_by_hash.specs.Hashed.{Holds}

-- The hash under which each index is filed, and the indexes in the ordered table's order, beside the store. No step
-- changes the hasher's state.
pub record State (T S : Type 0) : Type 0 where
  pub hasher : S
  pub store : Store T
  pub filed : FinMap nat_cmp ℕ
  pub order : List ℕ

-- a state is coded if its items and its hasher are
abbrev pub state_code : {T S : Type 0} → Coded T → Coded S → Coded (State T S)
state_code {T} {S} item hasher =
    code_by
    (S × (Store T × (FinMap nat_cmp ℕ × List ℕ)))
    (coded× hasher (coded× (store_code item) (coded× (finite.code coded_ℕ coded_ℕ) (coded_list coded_ℕ))))
    (λ s. (s.hasher, (s.store, (s.filed, s.order))))
    (λ p. record { hasher = p.0; store = p.1.0; filed = p.1.1.0; order = p.1.1.1 })
    (λ _. refl)

module _ {T S : Type 0} where
  -- no item, no slot and nothing in either table, with this limit of slots
  abbrev pub empty_state_within : ℕ → S → State T S
  empty_state_within limit hasher =
      record { hasher = hasher; store = empty_within limit; filed = finite.empty; order = [] }

  -- the empty state for which no limit is given
  abbrev pub empty_state : S → State T S
  empty_state hasher = empty_state_within slot_limit hasher

  -- the state after all items and all slots were forgotten
  abbrev pub cleared_state : State T S → State T S
  cleared_state old = record old { store = cleared old.store; filed = finite.empty; order = [] }

  -- the state after the removal of a live index from the store and both tables
  abbrev pub unbound : State T S → ℕ → State T S
  unbound s ix =
      record s { store = removed s.store ix; filed = finite.remove s.filed ix; order = without s.order ix }

  -- the state of a store and two tables
  abbrev pub state_of : S → Store T → Table ℕ → Order → State T S
  state_of hasher store table order =
      record { hasher = hasher; store = store; filed = filed table; order = order_of order }

  -- The live indexes, the filed ones and those of the order are the same, and the order has none twice. The store's
  -- list `free` has each vacant index once, and no other.
  pub record IsPaired (s : State T S) : Type 0 where
    pub valid : IsValid s.store
    pub filed : Holds s.store s.filed
    pub ordered : HasExactly s.store (Contains s.order)
    pub once : IsDistinct nat_eq s.order

  -- no index is live
  abbrev pub IsEmpty : State T S → Type 0
  IsEmpty s = live_count s.store ≡ 0

  -- the state after a compaction: each live index became its rank in the store and in the order, and `filed` has the
  -- filed indexes
  abbrev pub compacted_state : State T S → FinMap nat_cmp ℕ → State T S
  compacted_state s filed =
      record s { store = compacted s.store; filed = filed; order = map (rank s.store) s.order }

  -- each live index became its rank, in the store and in both tables, and nothing else changed
  pub record Compacts (old new : State T S) : Type 0 where
    pub filed : Renames (rank old.store) old.filed new.filed
    pub state : new ≡ compacted_state old new.filed
