-- The state of items with three unique keys: the hasher's state, the store, and what each table holds.
use Rattle.std.specs.Prelude.{◌⊎◌, ◌↔◌, ◌≤◌, ℕ, List, [], ◌∷◌, length, refl}
use Rattle.std.specs.List.{Contains}
use Rattle.std.specs.Ordering.{nat_cmp}
use Rattle.std.specs.FinMap as finite
use Rattle.std.specs.FinMap.{FinMap}
use Rattle.std.specs.Coded.{Coded, code_by, coded×, coded_ℕ}
use Rattle.iddqd.specs.Store.{Store, store_code, IsValid, empty_within, next_index, inserted, removed}
use Rattle.iddqd_keys.specs.Removals.{IsIncreasing, removed_all}
use Rattle.iddqd_keys.specs.Scan.{IsHit}
use Rattle.iddqd_by_hash.specs.Hashed.{Holds, IsInSync}
use Rattle.iddqd_tri.specs.TriKeys.{Three, TriKeys, hashing_in, shares, hashes_in}

-- for each key the map from index to hash
abbrev pub Maps : Type 0
Maps = Three (FinMap nat_cmp ℕ)

-- No step changes the hasher's state.
pub record TriState (T S : Type 0) : Type 0 where
  pub hasher : S
  pub store : Store T
  pub maps : Maps

abbrev map_code : Coded (FinMap nat_cmp ℕ)
map_code = finite.code coded_ℕ coded_ℕ

-- a state is coded if its items and its hasher are
abbrev pub tri_state_code : {T S : Type 0} → Coded T → Coded S → Coded (TriState T S)
tri_state_code {T} {S} item hasher =
    code_by
    (S × (Store T × (FinMap nat_cmp ℕ × (FinMap nat_cmp ℕ × FinMap nat_cmp ℕ))))
    (coded× hasher (coded× (store_code item) (coded× map_code (coded× map_code map_code))))
    (λ s. (s.hasher, (s.store, (s.maps.first, (s.maps.second, s.maps.third)))))
    (λ p. record {
      hasher = p.0;
      store = p.1.0;
      maps = record { first = p.1.1.0; second = p.1.1.1.0; third = p.1.1.1.1 };
    })
    (λ _. refl)

-- nothing in any of the maps
abbrev pub no_maps : Maps
no_maps = record { first = finite.empty; second = finite.empty; third = finite.empty }

-- the maps without an index
abbrev pub maps_without : Maps → ℕ → Maps
maps_without maps ix =
    record {
      first = finite.remove maps.first ix;
      second = finite.remove maps.second ix;
      third = finite.remove maps.third ix;
    }

-- the maps with an index under a hash in each
abbrev pub maps_with : Maps → ℕ → Three ℕ → Maps
maps_with maps ix hashes =
    record {
      first = finite.insert maps.first ix hashes.first;
      second = finite.insert maps.second ix hashes.second;
      third = finite.insert maps.third ix hashes.third;
    }

-- the maps without these indexes
abbrev pub maps_without_all : Maps → List ℕ → Maps
maps_without_all maps [] = maps
maps_without_all maps (ix ∷ rest) = maps_without_all (maps_without maps ix) rest

-- each of the maps has exactly the live indexes
pub record HoldLive {T : Type 0} (s : Store T) (maps : Maps) : Type 0 where
  pub first : Holds s maps.first
  pub second : Holds s maps.second
  pub third : Holds s maps.third

module _ {T S : Type 0} where
  -- no item, no slot and nothing in any table, with this limit of slots
  abbrev pub empty_tri_state : ℕ → S → TriState T S
  empty_tri_state limit hasher = record { hasher = hasher; store = empty_within limit; maps = no_maps }

  -- a live index was removed from the store and from each table
  abbrev pub unbound : TriState T S → ℕ → TriState T S
  unbound s ix = record s { store = removed s.store ix; maps = maps_without s.maps ix }

  -- these live indexes were removed, one after the other
  abbrev pub unbound_all : TriState T S → List ℕ → TriState T S
  unbound_all s indexes =
      record s { store = removed_all s.store indexes; maps = maps_without_all s.maps indexes }

module _ {T K1 K2 K3 S : Type 0} (keys : TriKeys T K1 K2 K3 S) where
  -- the item was stored under the next index, and that index was filed under the hash of each key
  abbrev pub inserted_state : TriState T S → T → TriState T S
  inserted_state s item =
      record s {
        store = inserted s.store item;
        maps = maps_with s.maps (next_index s.store) (hashes_in keys s.hasher item);
      }

  -- Each table has exactly the live indexes, under the hash of the item's key as it is now, and no two live items share
  -- that key. The store's list `free` has each vacant index once, and no other.
  pub record IsTriState (s : TriState T S) : Type 0 where
    pub valid : IsValid s.store
    pub held : HoldLive s.store s.maps
    pub first : IsInSync keys.first.key_of (hashing_in keys.first s.hasher) s.store s.maps.first
    pub second : IsInSync keys.second.key_of (hashing_in keys.second s.hasher) s.store s.maps.second
    pub third : IsInSync keys.third.key_of (hashing_in keys.third s.hasher) s.store s.maps.third

  -- the index is live, and its item shares its first, its second or its third key with this item
  abbrev pub ClashesAt : Store T → T → ℕ → Type 0
  ClashesAt s item ix =
      IsHit s (shares keys.first item) ix ⊎ (IsHit s (shares keys.second item) ix ⊎ IsHit s (shares keys.third item) ix)

  -- no live item shares a key with this one
  abbrev pub HasNoClash : Store T → T → Type 0
  HasNoClash s item = (ix : ℕ) → ClashesAt s item ix → ⊥

  -- these are exactly the live indexes whose items share a key with this one, by rising index
  pub record AreClashes (s : Store T) (item : T) (indexes : List ℕ) : Type 0 where
    pub each : (ix : ℕ) → Contains indexes ix ↔ ClashesAt s item ix
    pub rising : IsIncreasing indexes
    pub at_most_three : length indexes ≤ 3
