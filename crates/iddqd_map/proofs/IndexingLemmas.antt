-- Each step of a store and of a hash table that indexes it keeps it so.
use Rattle.std.proofs.Common.{◌≡◌, ◌≢◌, ◌∙◌, ◌⊎◌, ◌↔◌, inl, inr, ℕ, true, not, IsSome, Some, refl, sym, ap, subst}
use Rattle.std.proofs.lemmas.Bool.{cases_eq}
use Rattle.std.specs.Ordering.{nat_cmp}
use Rattle.std.specs.FinMap as finite
use Rattle.std.specs.FinMap.{FinMap}
use Rattle.iddqd.specs.Store.{Store, IsValid, empty_within, cleared, get, next_index, inserted, removed, rebound}
use Rattle.iddqd.specs.Compaction.{compacted, rank}
use Rattle.iddqd.proofs.LiveLemmas.{live_at}
use Rattle.iddqd_hash.specs.MapHashTable.{Renames}
use Rattle.iddqd_hash.proofs.MemberLemmas.{get-insert_at, get-insert_other, get-remove_other}
use Rattle.iddqd_keys.specs.Scan.{IsLive, IsHit, HasNoHit, AreApart}
use Rattle.iddqd_by_hash.specs.Hashed.{Hashing, IsInPlace, IsLawful}
use Rattle.iddqd_by_hash.specs.HashedMove.{moved}
use Rattle.iddqd_map.specs.Files.{Files}
use Rattle.iddqd_map.specs.Indexing.{Indexes, shares_key, Plans}
use Rattle.iddqd_by_hash.specs.declared.hashed_move.Move.{Move}
use Rattle.iddqd_by_hash.specs.declared.hashed_move.Move.TheVariants.{Stays, To}
use Rattle.iddqd_by_hash.proofs.HoldsLemmas.{Holds-empty, Holds-cleared, Holds-removed, Holds-inserted, Holds-compacted, Holds-rebound}
use Rattle.iddqd_by_hash.proofs.PlaceLemmas.{IsInSync-empty, IsInSync-inserted, Keeps-cleared, Keeps-removed, Keeps-compacted, Keeps-rebound}
use Rattle.iddqd_keys.proofs.ScanLemmas.{rebound_cases, live_rebound}

module _ {T K : Type 0} (key_of : T → K) (hashing : Hashing K) where
  module _ (s : Store T) (m : FinMap nat_cmp ℕ) (o : Files key_of hashing s m) where
    module _ (ix : ℕ) (item was : T) (live : get s ix ≡ Some was) where
      -- a live index that is filed under the hash of another item's key
      module _ (hash : ℕ) (is : hash ≡ hashing.hash_of (key_of item)) where
        abbrev there : FinMap nat_cmp ℕ
        there = moved m ix (To hash)

        filed_there : (j : ℕ) → j ≢ ix → finite.get there j ≡ finite.get m j
        filed_there j other = get-insert_other (finite.remove m ix) ix hash j other ∙ get-remove_other m ix j other

        holds_at : (j : ℕ) → (j ≡ ix) ⊎ (j ≡ ix → ⊥) → IsSome (finite.get there j) ↔ IsLive (rebound s ix item) j
        holds_at j (inl same) =
            let here : finite.get there j ≡ Some hash = rw same (get-insert_at (finite.remove m ix) ix hash) in
            let stays : IsLive (rebound s ix item) j =
            rw (live_rebound s ix item was live j) (live_at s j was (rw same live)) in
            (λ _. stays, λ _. rw here refl)
        holds_at j (inr other) = rw (filed_there j other, live_rebound s ix item was live j) (o.held j)

        placed_at : IsInPlace key_of hashing (rebound s ix item) there
        placed_at j y at =
            elim (rebound_cases s ix item was live j y at) [
              | inl a ↦ rw (a.0, ← a.1) (get-insert_at (finite.remove m ix) ix hash ∙ ap Some is)
              | inr b ↦ filed_there j b.0 ∙ o.placed j y b.1
            ]

        pub Files-moved : Files key_of hashing (rebound s ix item) there
        Files-moved = record { held = λ j. holds_at j (cases_eq j ix); placed = placed_at }

  pub Indexes-empty : (limit : ℕ) → Indexes key_of hashing (empty_within limit) finite.empty
  Indexes-empty limit = record { held = Holds-empty T limit; in_sync = IsInSync-empty key_of hashing limit }

  module _ (s : Store T) (m : FinMap nat_cmp ℕ) (o : Indexes key_of hashing s m) where
    pub Indexes-cleared : Indexes key_of hashing (cleared s) finite.empty
    Indexes-cleared = record { held = Holds-cleared s; in_sync = (Keeps-cleared key_of hashing s m).in_sync o.in_sync }

    pub Indexes-removed :
        (ix : ℕ) (item : T)
        → get s ix ≡ Some item
        → Indexes key_of hashing (removed s ix) (finite.remove m ix)
    Indexes-removed ix item live = record {
      held = Holds-removed s m o.held ix item live;
      in_sync = (Keeps-removed key_of hashing s m ix item live).in_sync o.in_sync;
    }

    pub Indexes-inserted :
        (item : T)
        → IsValid s
        → IsLawful hashing
        → HasNoHit s (shares_key key_of hashing item)
        → Indexes key_of hashing (inserted s item) (finite.insert m (next_index s) (hashing.hash_of (key_of item)))
    Indexes-inserted item valid lawful none = record {
      held = Holds-inserted s m o.held item (hashing.hash_of (key_of item)) valid;
      in_sync = IsInSync-inserted key_of hashing s m item valid lawful none o.in_sync;
    }

    pub Indexes-compacted : (new : FinMap nat_cmp ℕ) → Renames (rank s) m new → Indexes key_of hashing (compacted s) new
    Indexes-compacted new named = record {
      held = Holds-compacted s m o.held new named;
      in_sync = (Keeps-compacted key_of hashing s m new named).in_sync o.in_sync;
    }

    -- a live index is given another item, as it was planned
    module _ (ix : ℕ) (item was : T) (live : get s ix ≡ Some was) (lawful : IsLawful hashing) where
      kept : Plans key_of hashing s ix item Stays → Indexes key_of hashing (rebound s ix item) m
      kept hit =
          let (there, is, same) = hit in
          let none : IsHit s (λ was. not (hashing.equal (key_of item) (key_of was))) ix → ⊥ = λ other. (let one : Some there ≡ Some other.0 = sym is ∙ other.1 in let differs = other.2 in cc) in
          record {
            held = Holds-rebound s m o.held ix item was live;
            in_sync = (Keeps-rebound key_of hashing s m ix item was live lawful none).in_sync o.in_sync;
          }

      module _ (hash : ℕ) (plan : Plans key_of hashing s ix item (To hash)) where
        apart_at : AreApart (λ x y. hashing.equal (key_of x) (key_of y)) (rebound s ix item)
        apart_at i j x y p q same =
            let symm = lawful.equivalence.symm in
            elim (rebound_cases s ix item was live i x p) [
              | inl a ↦ elim (rebound_cases s ix item was live j y q) [
                | inl b ↦ a.0 ∙ sym b.0
                | inr b ↦ absurd (plan.0 j (y, b.1, subst (λ z. hashing.equal (key_of z) (key_of y) ≡ true) (sym a.1) same))
              ]
              | inr a ↦ elim (rebound_cases s ix item was live j y q) [
                | inl b ↦ absurd (plan.0 i (x, a.1, symm (key_of item) (key_of x) ∙ subst (λ z. hashing.equal (key_of x) (key_of z) ≡ true) (sym b.1) same))
                | inr b ↦ o.in_sync.apart i j x y a.1 b.1 same
              ]
            ]

        went : Indexes key_of hashing (rebound s ix item) (moved m ix (To hash))
        went =
            let files = Files-moved s m (record { held = o.held; placed = o.in_sync.placed }) ix item was live hash plan.1 in
            record { held = files.held; in_sync = record { placed = files.placed; apart = apart_at } }

      pub Indexes-rebound :
          (plan : Move)
          → Plans key_of hashing s ix item plan
          → Indexes key_of hashing (rebound s ix item) (moved m ix plan)
      Indexes-rebound Stays plan = kept plan
      Indexes-rebound (To hash) plan = went hash plan
