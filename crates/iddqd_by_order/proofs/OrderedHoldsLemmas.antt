-- For callers: a list of indexes has exactly the live ones of a store, each once, after each step of both.
use Rattle.std.proofs.Common.{◌≡◌, ◌≢◌, inl, inr, ◌↔◌, ℕ, List, [], map, insert, Some, sym, subst}
use Rattle.std.specs.List.{Contains, IsDistinct}
use Rattle.std.proofs.lemmas.Bool.{cases_eq}
use Rattle.iddqd.specs.Store.{Store, IsValid, empty_within, cleared, get, next_index, inserted, removed, rebound}
use Rattle.iddqd.specs.Compaction.{IsRemapOf, CanRemap, remapped, compacted, rank}
use Rattle.iddqd.specs.declared.index_remap.IndexRemap.{IndexRemap}
use Rattle.iddqd.proofs.StoreLemmas.{contains_none}
use Rattle.iddqd.proofs.LiveLemmas.{none_not_live, item_at, live_at, next_vacant, get-removed_at, get-removed_other, get-inserted_at, get-inserted_other, renames, one_name}
use Rattle.iddqd.proofs.CompactionLemmas.{get-compacted, live-compacted, rank_one_to_one}
use Rattle.iddqd_order.specs.MapBTreeTable.{without}
use Rattle.iddqd_order.proofs.IndexListLemmas.{IsDistinct-insert, IsDistinct-filter}
use Rattle.iddqd_order.proofs.MemberLemmas.{contains-inserted_at, contains-inserted_other, contains-inserted_cases, contains-without, contains-from_without, map-alike}
use Rattle.iddqd_order.proofs.RenameLemmas.{Contains-map, Contains-from_map, IsDistinct-map}
use Rattle.iddqd_keys.specs.Scan.{IsLive}
use Rattle.iddqd_by_order.specs.Ordered.{Holds, Adds}
use Rattle.iddqd_keys.proofs.ScanLemmas.{live_rebound}

module _ {T : Type 0} where
  Holds-none : (s : Store T) → ((ix : ℕ) → IsLive s ix → ⊥) → Holds s []
  unfolding IsDistinct
  Holds-none s none = record { each = λ ix. (λ here. absurd (contains_none ix here), λ live. absurd (none ix live)); once = tt }

  pub Holds-cleared : (s : Store T) → Holds (cleared s) []
  Holds-cleared s = Holds-none (cleared s) (λ ix live. cc)

  module _ (s : Store T) (order : List ℕ) (holds : Holds s order) where
    -- the next index is new to the list
    pub next_absent : IsValid s → Contains order (next_index s) → ⊥
    next_absent valid here = none_not_live s (next_index s) (next_vacant s valid) ((holds.each (next_index s)).0 here)

    pub Holds-removed : (ix : ℕ) (item : T) → get s ix ≡ Some item → Holds (removed s ix) (without order ix)
    Holds-removed ix item live = record {
      each = λ j. (
        λ here.
            let (stood, other) = contains-from_without order ix j here in
            rw (get-removed_other s ix j other) ((holds.each j).0 stood),
        λ after. elim (cases_eq j ix) [
          | inl same ↦ absurd (none_not_live (removed s ix) ix (get-removed_at s ix item live) (subst (IsLive (removed s ix)) same after))
          | inr other ↦ contains-without order ix j ((holds.each j).1 (rw (get-removed_other s ix j other) at after)) other
        ],
      );
      once = IsDistinct-filter _ order holds.once;
    }

    module _ (item : T) (valid : IsValid s) where
      abbrev next : ℕ
      next = next_index s

      live_still : (j : ℕ) → IsLive s j → IsLive (inserted s item) j
      live_still j live =
          let other : j ≢ next = λ same. none_not_live s next (next_vacant s valid) (subst (IsLive s) same live) in
          rw (get-inserted_other s item j other) live

      inserted_at : (place j : ℕ) → Contains (insert order place next) j ↔ IsLive (inserted s item) j
      inserted_at place j = (
        λ here. elim (contains-inserted_cases order place next j here) [
          | inl same ↦ subst (IsLive (inserted s item)) (sym same) (live_at (inserted s item) next item (get-inserted_at s item valid))
          | inr stood ↦ live_still j ((holds.each j).0 stood)
        ],
        λ live. elim (cases_eq j next) [
          | inl same ↦ subst (Contains (insert order place next)) (sym same) (contains-inserted_at order place next)
          | inr other ↦ contains-inserted_other order place next j ((holds.each j).1 (rw (get-inserted_other s item j other) at live))
        ],
      )

      pub Holds-inserted : (new : List ℕ) → Adds order (next_index s) new → Holds (inserted s item) new
      Holds-inserted new adds = subst (Holds (inserted s item)) (sym adds.added) (record {
        each = inserted_at adds.place;
        once = IsDistinct-insert order adds.place next (next_absent valid) holds.once;
      })

    pub Holds-rebound : (ix : ℕ) (item was : T) → get s ix ≡ Some was → Holds (rebound s ix item) order
    Holds-rebound ix item was live = record { each = λ j. rw (live_rebound s ix item was live j) (holds.each j); once = holds.once }

    -- a compaction: the remap names each index of the list, no two alike, and by rank
    module _ (remap : IndexRemap) (valid : IsValid s) (is : IsRemapOf s remap) where
      pub CanRemap-held : (ix : ℕ) → Contains order ix → CanRemap remap ix
      CanRemap-held ix here = (renames s remap valid is ix ((holds.each ix).0 here)).0

      pub one_name-held : (i j : ℕ) → Contains order i → Contains order j → remapped remap i ≡ remapped remap j → i ≡ j
      one_name-held i j p q same = one_name s remap valid is i j ((holds.each i).0 p) ((holds.each j).0 q) same

      pub map-by_rank : map (remapped remap) order ≡ map (rank s) order
      map-by_rank = map-alike (remapped remap) (rank s) order (λ ix here. (renames s remap valid is ix ((holds.each ix).0 here)).1)

    pub Holds-compacted : Holds (compacted s) (map (rank s) order)
    Holds-compacted = record {
      each = λ at. (
        λ here.
            let (ix, stood, named) = Contains-from_map (rank s) order at here in
            let (item, live) = item_at s ix ((holds.each ix).0 stood) in
            subst (IsLive (compacted s)) named (live_at (compacted s) _ item (get-compacted s ix item live)),
        λ live.
            let (item, is) = item_at (compacted s) at live in
            let (ix, named, stood) = live-compacted s at item is in
            subst (Contains (map (rank s) order)) named (Contains-map (rank s) order ix ((holds.each ix).1 (live_at s ix item stood))),
      );
      once = IsDistinct-map (rank s) order (λ i j p q same. rank_one_to_one s i j ((holds.each i).0 p) ((holds.each j).0 q) same) holds.once;
    }

pub Holds-empty : (T : Type 0) (limit : ℕ) → Holds (empty_within {T = T} limit) []
Holds-empty T limit = Holds-none (empty_within {T = T} limit) (λ ix live. cc)
