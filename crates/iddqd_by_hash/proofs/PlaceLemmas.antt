-- For callers: each step of a store and of a map keeps a hash table in place, and in sync.
use Rattle.std.proofs.Common.{◌≡◌, ◌∙◌, inl, inr, ℕ, Bool, true, Some, None, refl, sym, ap, subst}
use Rattle.std.specs.Ordering.{nat_cmp}
use Rattle.std.specs.FinMap as finite
use Rattle.std.specs.FinMap.{FinMap}
use Rattle.iddqd.specs.Store.{Store, IsValid, empty_within, cleared, live_count, get, next_index, inserted, removed, rebound}
use Rattle.iddqd.specs.Compaction.{compacted, rank}
use Rattle.iddqd.proofs.LiveLemmas.{none_live}
use Rattle.iddqd.proofs.CompactionLemmas.{live-compacted}
use Rattle.iddqd_hash.specs.MapHashTable.{Renames}
use Rattle.iddqd_hash.proofs.MemberLemmas.{get-insert_at, get-insert_other, get-remove_other}
use Rattle.iddqd_keys.specs.Scan.{HasNoHit, passes_by}
use Rattle.iddqd_keys.specs.AnyTable.{ChangesAt}
use Rattle.iddqd_by_hash.specs.Hashed.{Hashing, IsLawful, Finds, IsInPlace, IsInSync, Keeps}
use Rattle.iddqd_keys.proofs.ScanLemmas.{live_before, live_cases, rebound_cases, passes_unless, AreApart-bare, AreApart-removed, AreApart-inserted, AreApart-compacted, AreApart-rebound}
use Rattle.iddqd_by_hash.proofs.FindLemmas.{AnswersScan-found, StandsForOne-key}

module _ {T K : Type 0} (key_of : T → K) (hashing : Hashing K) where
  abbrev hash_at : T → ℕ
  hash_at item = hashing.hash_of (key_of item)

  abbrev has_key_of : T → T → Bool
  has_key_of item = passes_by key_of (hashing.equal (key_of item))

  module _ (s : Store T) (m : FinMap nat_cmp ℕ) where
    -- where nothing is live
    pub IsInSync-bare : live_count s ≡ 0 → IsInSync key_of hashing s m
    IsInSync-bare none = record {
      placed = λ ix item is. absurd (none_live s ix item none is);
      apart = AreApart-bare _ s none;
    }

    pub IsInPlace-removed :
        (ix : ℕ) (item : T)
        → get s ix ≡ Some item
        → IsInPlace key_of hashing s m
        → IsInPlace key_of hashing (removed s ix) (finite.remove m ix)
    IsInPlace-removed ix item live placed j y is =
        let was = live_before s ix j item y live is in
        get-remove_other m ix j was.0 ∙ placed j y was.1

    pub Keeps-removed :
        (ix : ℕ) (item : T)
        → get s ix ≡ Some item
        → Keeps key_of hashing s m (removed s ix) (finite.remove m ix)
    Keeps-removed ix item live = record {
      placed = IsInPlace-removed ix item live;
      in_sync =
          λ o. record {
            placed = IsInPlace-removed ix item live o.placed;
            apart = AreApart-removed _ s ix item live
                o.apart;
          };
    }

    pub IsInPlace-inserted :
        (item : T)
        → IsValid s
        → IsInPlace key_of hashing s m
        → IsInPlace key_of hashing (inserted s item) (finite.insert m (next_index s) (hash_at item))
    IsInPlace-inserted item valid placed j y is =
        elim (live_cases s item j y valid is) [
          | inl new_one ↦ rw (new_one.0, ← new_one.1) (get-insert_at m (next_index s) _)
          | inr was ↦ get-insert_other m (next_index s) _ j was.0 ∙ placed j y was.1
        ]

    -- an item whose key none has
    pub IsInSync-inserted :
        (item : T)
        → IsValid s
        → IsLawful hashing
        → HasNoHit s (has_key_of item)
        → IsInSync key_of hashing s m
        → IsInSync key_of hashing (inserted s item) (finite.insert m (next_index s) (hash_at item))
    IsInSync-inserted item valid lawful none o = record {
      placed = IsInPlace-inserted item valid o.placed;
      apart = AreApart-inserted _ s item valid (λ x y. lawful.equivalence.symm (key_of x) (key_of y)) none o.apart;
    }

    -- an item whose key a look-up missed
    pub Keeps-inserted :
        (item : T)
        → IsValid s
        → IsLawful hashing
        → Finds s m (hash_at item) (has_key_of item) None
        → Keeps key_of hashing s m (inserted s item) (finite.insert m (next_index s) (hash_at item))
    Keeps-inserted item valid lawful missed = record {
      placed = IsInPlace-inserted item valid;
      in_sync = λ o.
          let one = StandsForOne-key hashing (key_of item) _ lawful refl in
          IsInSync-inserted item valid lawful (AnswersScan-found key_of s m _ _ hashing None one o missed) o;
    }

    pub IsInPlace-compacted :
        (new : FinMap nat_cmp ℕ)
        → Renames (rank s) m new
        → IsInPlace key_of hashing s m
        → IsInPlace key_of hashing (compacted s) new
    IsInPlace-compacted new named placed at item is =
        let (ix, same, stood) = live-compacted s at item is in
        subst (λ at. finite.get new at ≡ Some (hash_at item)) same (named.each ix _ (placed ix item stood))

    pub Keeps-compacted : (new : FinMap nat_cmp ℕ) → Renames (rank s) m new → Keeps key_of hashing s m (compacted s) new
    Keeps-compacted new named = record {
      placed = IsInPlace-compacted new named;
      in_sync = λ o. record { placed = IsInPlace-compacted new named o.placed; apart = AreApart-compacted _ s o.apart };
    }

    -- a live index that is given an item with the same key
    module _ (ix : ℕ) (item was : T) (live : get s ix ≡ Some was) (lawful : IsLawful hashing) where
      IsInPlace-rebound :
          hashing.equal (key_of item) (key_of was) ≡ true
          → IsInPlace key_of hashing s m
          → IsInPlace key_of hashing (rebound s ix item) m
      IsInPlace-rebound kept placed j y is =
          elim (rebound_cases s ix item was live j y is) [
            | inl a ↦
                rw (a.0, ← a.1) (placed ix was live ∙ ap Some (sym (lawful.equal_hash (key_of item) (key_of was) kept)))
            | inr b ↦ placed j y b.1
          ]

      pub Keeps-rebound :
          (ChangesAt key_of hashing.equal s ix item → ⊥)
          → Keeps key_of hashing s m (rebound s ix item) m
      Keeps-rebound same =
          let e = lawful.equivalence in
          let kept = passes_unless s (has_key_of item) ix was live same in
          record {
            placed = IsInPlace-rebound kept;
            in_sync = λ o. record {
              placed = IsInPlace-rebound kept o.placed;
              apart =
                  AreApart-rebound s ix item was live _ (λ x y. e.symm (key_of x) (key_of y))
                  (λ x y z. e.trans (key_of x) (key_of y) (key_of z)) kept o.apart;
            };
          }

  pub IsInSync-empty : (limit : ℕ) → IsInSync key_of hashing (empty_within limit) finite.empty
  IsInSync-empty limit = IsInSync-bare (empty_within limit) finite.empty refl

  pub Keeps-cleared : (s : Store T) (m : FinMap nat_cmp ℕ) → Keeps key_of hashing s m (cleared s) finite.empty
  Keeps-cleared s m =
      let o = IsInSync-bare (cleared s) finite.empty refl in
      record { placed = λ _. o.placed; in_sync = λ _. o }
