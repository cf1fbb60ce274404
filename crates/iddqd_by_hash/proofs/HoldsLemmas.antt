-- For callers: a map of indexes under hashes has exactly the live ones of a store after each step of both.
use Rattle.std.proofs.Common.{◌≡◌, ◌⊎◌, inl, inr, ◌↔◌, ℕ, Some, None, IsSome, refl, subst}
use Rattle.std.specs.Ordering.{nat_cmp}
use Rattle.std.specs.FinMap as finite
use Rattle.std.specs.FinMap.{FinMap}
use Rattle.std.proofs.lemmas.Bool.{cases_eq}
use Rattle.iddqd.specs.Store.{Store, IsValid, empty_within, cleared, get, next_index, inserted, removed, rebound}
use Rattle.iddqd.specs.Compaction.{IsRemapOf, CanRemap, remapped, compacted, rank}
use Rattle.iddqd.specs.declared.index_remap.IndexRemap.{IndexRemap}
use Rattle.iddqd.proofs.LiveLemmas.{none_not_live, item_at, live_at, next_vacant, get-removed_at, get-removed_other, get-inserted_at, get-inserted_other, renames, one_name}
use Rattle.iddqd.proofs.CompactionLemmas.{get-compacted, live-compacted}
use Rattle.iddqd_hash.specs.MapHashTable.{HaveOwnNames, Renames}
use Rattle.iddqd_hash.proofs.MemberLemmas.{get-insert_at, get-insert_other, get-remove_at, get-remove_other, filed_hash, filed_at, Renames-alike}
use Rattle.iddqd_keys.specs.Scan.{IsLive}
use Rattle.iddqd_by_hash.specs.Hashed.{Holds}
use Rattle.iddqd_keys.proofs.ScanLemmas.{live_rebound}

module _ {T : Type 0} where
  Holds-none : (s : Store T) → ((ix : ℕ) → IsLive s ix → ⊥) → Holds s finite.empty
  Holds-none s none ix = (λ here. absurd (let never = rw finite.get-empty at here in cc), λ live. absurd (none ix live))

  pub Holds-cleared : (s : Store T) → Holds (cleared s) finite.empty
  Holds-cleared s = Holds-none (cleared s) (λ ix live. cc)

  module _ (s : Store T) (m : FinMap nat_cmp ℕ) (holds : Holds s m) where
    -- the next index is new to the map
    pub next_unfiled : IsValid s → finite.get m (next_index s) ≡ None
    next_unfiled valid =
        let next = next_index s in
        elim (finite.get m next) as (λ o. finite.get m next ≡ o → o ≡ None) [
          | Some hash ↦ λ is. absurd (none_not_live s next (next_vacant s valid) ((holds next).0 (rw is refl)))
          | None ↦ λ _. refl
        ] refl

    removed_by :
        (ix : ℕ) (item : T)
        → get s ix ≡ Some item
        → (j : ℕ)
        → ((j ≡ ix) ⊎ (j ≡ ix → ⊥))
        → (IsSome (finite.get m j) ↔ IsLive s j)
        → IsSome (finite.get (finite.remove m ix) j) ↔ IsLive (removed s ix) j
    removed_by ix item live j (inl same) was =
        rw (same, get-remove_at m ix, get-removed_at s ix item live) (λ h. h, λ h. h)
    removed_by ix item live j (inr other) was =
        rw (get-remove_other m ix j other, get-removed_other s ix j other) was

    pub Holds-removed : (ix : ℕ) (item : T) → get s ix ≡ Some item → Holds (removed s ix) (finite.remove m ix)
    Holds-removed ix item live j = removed_by ix item live j (cases_eq j ix) (holds j)

    inserted_by :
        (item : T) (hash : ℕ)
        → IsValid s
        → (j : ℕ)
        → ((j ≡ next_index s) ⊎ (j ≡ next_index s → ⊥))
        → (IsSome (finite.get m j) ↔ IsLive s j)
        → IsSome (finite.get (finite.insert m (next_index s) hash) j) ↔ IsLive (inserted s item) j
    inserted_by item hash valid j (inl same) was =
        rw (same, get-insert_at m (next_index s) hash, get-inserted_at s item valid) (λ _. refl, λ _. refl)
    inserted_by item hash valid j (inr other) was =
        rw (get-insert_other m (next_index s) hash j other, get-inserted_other s item j other) was

    pub Holds-inserted :
        (item : T) (hash : ℕ)
        → IsValid s
        → Holds (inserted s item) (finite.insert m (next_index s) hash)
    Holds-inserted item hash valid j = inserted_by item hash valid j (cases_eq j (next_index s)) (holds j)

    pub Holds-rebound : (ix : ℕ) (item was : T) → get s ix ≡ Some was → Holds (rebound s ix item) m
    Holds-rebound ix item was live j = rw (live_rebound s ix item was live j) (holds j)

    -- a compaction: the remap names each index of the map, no two alike, and by rank
    module _ (remap : IndexRemap) (valid : IsValid s) (is : IsRemapOf s remap) where
      pub CanRemap-held : (ix : ℕ) → IsSome (finite.get m ix) → CanRemap remap ix
      CanRemap-held ix here = (renames s remap valid is ix ((holds ix).0 here)).0

      pub one_name-held : HaveOwnNames (remapped remap) m
      one_name-held i j p q same = one_name s remap valid is i j ((holds i).0 p) ((holds j).0 q) same

      pub Renames-by_rank : (new : FinMap nat_cmp ℕ) → Renames (remapped remap) m new → Renames (rank s) m new
      Renames-by_rank new named =
          Renames-alike (remapped remap) (rank s) m new
          (λ ix here. (renames s remap valid is ix ((holds ix).0 here)).1) named

    pub Holds-compacted : (new : FinMap nat_cmp ℕ) → Renames (rank s) m new → Holds (compacted s) new
    Holds-compacted new named at = (
      λ here.
          let (hash, is) = filed_hash _ here in
          let (ix, same, stood) = named.no_other at hash is in
          let (item, live) = item_at s ix ((holds ix).0 (filed_at _ hash stood)) in
          subst (IsLive (compacted s)) same (live_at (compacted s) _ item (get-compacted s ix item live)),
      λ live.
          let (item, is) = item_at (compacted s) at live in
          let (ix, same, stood) = live-compacted s at item is in
          let (hash, filed) = filed_hash _ ((holds ix).1 (live_at s ix item stood)) in
          subst (λ at. IsSome (finite.get new at)) same (filed_at _ hash (named.each ix hash filed)),
    )

pub Holds-empty : (T : Type 0) (limit : ℕ) → Holds (empty_within {T = T} limit) finite.empty
Holds-empty T limit = Holds-none (empty_within {T = T} limit) (λ ix live. cc)
