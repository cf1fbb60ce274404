-- Each step of keyed items keeps store and tables paired, and each key index in place and exact.
use Rattle.std.proofs.Common.{◌≡◌, ◌∙◌, ◌≤◌, ℕ, List, Option, Some, None, sym, ap, subst}
use Rattle.std.specs.Ordering.{nat_cmp}
use Rattle.std.specs.FinMap.{FinMap}
use Rattle.iddqd.specs.Store.{IsValid, IsFull, slot_limit, get, rebound}
use Rattle.iddqd.specs.Compaction.{rank}
use Rattle.iddqd.proofs.StoreLemmas.{IsValid-empty, IsValid-cleared, IsValid-inserted, IsValid-removed, IsValid-rebound}
use Rattle.iddqd.proofs.CompactionLemmas.{IsValid-compacted}
use Rattle.iddqd_hash.specs.MapHashTable.{Renames}
use Rattle.iddqd_keys.specs.Scan.{passes_by}
use Rattle.iddqd_by_hash.specs.Hashed as hashed
use Rattle.iddqd_by_order.specs.Ordered as ordered
use Rattle.iddqd_by_hash.proofs.FindLemmas.{StandsForOne-key}
use Rattle.iddqd_by_hash.proofs.HoldsLemmas as filed_holds
use Rattle.iddqd_by_hash.proofs.PlaceLemmas as filed_place
use Rattle.iddqd_by_order.proofs.OrderedHoldsLemmas as order_holds
use Rattle.iddqd_by_order.proofs.OrderedPlaceLemmas as order_place
use Rattle.iddqd_driver.specs.Keys.{Keys, first_hashing}
use Rattle.iddqd_driver.specs.State.{State, empty_state_within, cleared_state, unbound, compacted_state, IsPaired, IsEmpty}
use Rattle.iddqd_driver.specs.KeyIndexes.{hash_in, first_key_index, second_key_index, LooksUp, FirstKeysInSync, SecondKeysInSync, Keeps, KeepsUnlessChanged}
use Rattle.iddqd_driver.specs.Machine.{inserted_state}
use Rattle.iddqd_driver.proofs.KeyLemmas.{AreLawful}

module _ {T S : Type 0} where
  pub Holds-order : (s : State T S) → IsPaired s → ordered.Holds s.store s.order
  Holds-order s paired = record { each = paired.ordered; once = paired.once }

  paired_by : (s : State T S) → IsValid s.store → hashed.Holds s.store s.filed → ordered.Holds s.store s.order
      → IsPaired s
  paired_by s valid filed order = record { valid = valid; filed = filed; ordered = order.each; once = order.once }

  pub IsPaired-empty : (limit : ℕ) (hasher : S) → limit ≤ slot_limit
      → IsPaired (empty_state_within {T = T} limit hasher)
  IsPaired-empty limit hasher named =
      paired_by _ (IsValid-empty limit named) (filed_holds.Holds-empty T limit) (order_holds.Holds-empty T limit)

  module _ (s : State T S) (paired : IsPaired s) where
    pub order_has_live_indexes : ordered.Holds s.store s.order
    order_has_live_indexes = Holds-order s paired

    pub IsPaired-cleared : IsPaired (cleared_state s)
    IsPaired-cleared =
        paired_by _ (IsValid-cleared s.store paired.valid) (filed_holds.Holds-cleared s.store)
        (order_holds.Holds-cleared s.store)

    pub IsPaired-unbound : (ix : ℕ) (item : T) → get s.store ix ≡ Some item → IsPaired (unbound s ix)
    IsPaired-unbound ix item live =
        paired_by _ (IsValid-removed s.store ix item paired.valid live)
        (filed_holds.Holds-removed s.store s.filed paired.filed ix item live)
        (order_holds.Holds-removed s.store s.order order_has_live_indexes ix item live)

    pub IsPaired-compacted : (filed : FinMap nat_cmp ℕ) → Renames (rank s.store) s.filed filed
        → IsPaired (compacted_state s filed)
    IsPaired-compacted filed named =
        paired_by _ (IsValid-compacted s.store paired.valid)
        (filed_holds.Holds-compacted s.store s.filed paired.filed filed named)
        (order_holds.Holds-compacted s.store s.order order_has_live_indexes)

    pub IsPaired-rebound : (ix : ℕ) (item was : T) → get s.store ix ≡ Some was
        → IsPaired (record s { store = rebound s.store ix item })
    IsPaired-rebound ix item was live =
        paired_by _ (IsValid-rebound s.store ix item was paired.valid live)
        (filed_holds.Holds-rebound s.store s.filed paired.filed ix item was live)
        (order_holds.Holds-rebound s.store s.order order_has_live_indexes ix item was live)

module _ {T S K1 K2 : Type 0} (keys : Keys T K1 K2 S) where
  -- where nothing is live
  pub FirstKeysInSync-bare : (s : State T S) → IsPaired s → IsEmpty s → FirstKeysInSync keys s
  FirstKeysInSync-bare s paired = filed_place.IsInSync-bare keys.first (first_hashing keys s.hasher) s.store s.filed

  pub SecondKeysInSync-bare : (s : State T S) → IsPaired s → IsEmpty s → SecondKeysInSync keys s
  SecondKeysInSync-bare s paired =
      order_place.IsInSync-bare keys.second keys.compare_second s.store s.order (Holds-order s paired)

  -- a look-up in the hash table, seen in its parts, under the hash of a lawful key
  pub LooksUp-hashed :
      (parts s : State T S) → parts ≡ s → AreLawful keys → (key : K1) (hash : ℕ) (r : Option ℕ)
      → hash ≡ hash_in keys parts key
      → hashed.LooksUp keys.first parts.store parts.filed hash (keys.equal_first key) r
      → LooksUp (first_key_index keys) s key r
  LooksUp-hashed parts s seen lawful key hash r is looked =
      let hashing = first_hashing keys s.hasher in
      let equal = keys.equal_first key in
      let looks = subst (λ t. hashed.LooksUp keys.first t.store t.filed hash equal r) seen looked in
      let hash_is = is ∙ ap (λ t. hash_in keys t key) seen in
      record {
        found = subst (λ h. hashed.Finds s.store s.filed h (passes_by keys.first equal) r) hash_is looks.found;
        as_scan = looks.as_scan hashing (StandsForOne-key hashing key hash (lawful.first s.hasher) hash_is);
      }

  module _ (s : State T S) (paired : IsPaired s) where
    abbrev hashing : hashed.Hashing K1
    hashing = first_hashing keys s.hasher

    pub Keeps-same : (new : State T S) → new ≡ s → Keeps keys s new
    Keeps-same new same = subst (Keeps keys s) (sym same) (record {
      paired = (paired, paired);
      first_keys = record { placed = λ p. p; in_sync = λ o. o };
      second_keys = record { placed = λ p. p; in_sync = λ o. o };
    })

    pub KeepsUnlessChanged-same : (ix : ℕ) (item : T) → KeepsUnlessChanged keys s ix item s
    KeepsUnlessChanged-same ix item = record {
      paired = (paired, paired);
      first_keys = λ _. record { placed = λ p. p; in_sync = λ o. o };
      second_keys = λ _. record { placed = λ p. p; in_sync = λ o. o };
    }

    pub Keeps-cleared : Keeps keys s (cleared_state s)
    Keeps-cleared = record {
      paired = (paired, IsPaired-cleared s paired);
      first_keys = filed_place.Keeps-cleared keys.first hashing s.store s.filed;
      second_keys = order_place.Keeps-cleared keys.second keys.compare_second s.store s.order;
    }

    module _ (lawful : AreLawful keys) where
      pub Keeps-unbound : (ix : ℕ) (item : T) → get s.store ix ≡ Some item → Keeps keys s (unbound s ix)
      Keeps-unbound ix item live = record {
        paired = (paired, IsPaired-unbound s paired ix item live);
        first_keys = filed_place.Keeps-removed keys.first hashing s.store s.filed ix item live;
        second_keys =
            order_place.Keeps-removed keys.second keys.compare_second lawful.second s.store s.order ix item live;
      }

      pub Keeps-inserted_state :
          (item : T) (order : List ℕ) → (IsFull s.store → ⊥) → (first_key_index keys).Finds s (keys.first item) None
          → LooksUp (second_key_index keys) s (keys.second item) None
          → ordered.AddsInPlace keys.second keys.compare_second s.store item s.order order
          → Keeps keys s (inserted_state keys s item order)
      Keeps-inserted_state item order not_full first second adds = record {
        paired = (
          paired,
          paired_by _ (IsValid-inserted s.store item paired.valid not_full)
              (filed_holds.Holds-inserted s.store s.filed paired.filed item _ paired.valid)
              (order_holds.Holds-inserted s.store s.order (Holds-order s paired) item paired.valid order adds.adds),
        );
        first_keys = filed_place.Keeps-inserted keys.first hashing s.store s.filed item paired.valid
            (lawful.first s.hasher) first;
        second_keys = order_place.Keeps-inserted keys.second keys.compare_second lawful.second s.store s.order
            item order paired.valid second adds;
      }

      pub Keeps-compacted : (filed : FinMap nat_cmp ℕ) → Renames (rank s.store) s.filed filed
          → Keeps keys s (compacted_state s filed)
      Keeps-compacted filed named = record {
        paired = (paired, IsPaired-compacted s paired filed named);
        first_keys = filed_place.Keeps-compacted keys.first hashing s.store s.filed filed named;
        second_keys = order_place.Keeps-compacted keys.second keys.compare_second lawful.second s.store s.order
            (Holds-order s paired);
      }

      pub KeepsUnlessChanged-rebound : (ix : ℕ) (item was : T) → get s.store ix ≡ Some was
          → KeepsUnlessChanged keys s ix item (record s { store = rebound s.store ix item })
      KeepsUnlessChanged-rebound ix item was live = record {
        paired = (paired, IsPaired-rebound s paired ix item was live);
        first_keys = filed_place.Keeps-rebound keys.first hashing s.store s.filed ix item was live
            (lawful.first s.hasher);
        second_keys = order_place.Keeps-rebound keys.second keys.compare_second lawful.second s.store s.order
            ix item was live;
      }
