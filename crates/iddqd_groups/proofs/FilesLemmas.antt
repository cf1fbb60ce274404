-- Each step of a store and of a hash table that files it by a key, which several items may have, keeps it so.
use Rattle.std.proofs.Common.{◌≡◌, ◌∙◌, ◌<◌, ◌≤◌, ◌+◌, ℕ, Bool, not, List, [], ◌∷◌, length, max, count_by, Option, Some, None, is_some, Result, Ok, Err, OnOk, refl, sym, ap, subst, arith}
use Rattle.std.proofs.lemmas.List.{length-set, length_push}
use Rattle.std.specs.Ordering.{nat_cmp}
use Rattle.std.specs.FinMap as finite
use Rattle.std.specs.FinMap.{FinMap}
use Rattle.iddqd.specs.Store.{Store, IsValid, empty_within, get, live_count, slot_count, first_or, filled, next_index, inserted, removed, rebound}
use Rattle.iddqd.specs.Compaction.{compacted, rank}
use Rattle.iddqd.proofs.CompactionLemmas.{slot_count-compacted, live_count-compacted}
use Rattle.iddqd.proofs.StoreLemmas.{contains_head}
use Rattle.iddqd_hash.specs.MapHashTable.{Renames}
use Rattle.iddqd_keys.specs.Scan.{passes_by}
use Rattle.std.specs.declared.hash.Hasher as hasher
use Rattle.std.specs.declared.hash.BuildHasher as builder
use Rattle.iddqd_by_hash.specs.Hashed.{Hashing, hashing_of, Holds, IsLawful, StandsForOne}
use Rattle.iddqd_by_hash.proofs.HashedItemLemmas.{item_hashing}
use Rattle.iddqd_groups.specs.HashedGroup.{IsGroupOf}
use Rattle.iddqd_by_hash.specs.HashedMove.{moved}
use Rattle.iddqd_by_hash.specs.declared.hashed_move.Move.{Move}
use Rattle.iddqd_by_hash.specs.declared.hashed_move.Move.TheVariants.{Stays, To}
use Rattle.iddqd_groups.specs.LinkedTable.{LinkedState}
use Rattle.iddqd_by_hash.proofs.HashedCountLemmas.{len-held}
use Rattle.iddqd_by_hash.proofs.HoldsLemmas.{Holds-empty, Holds-removed, Holds-inserted, Holds-compacted}
use Rattle.iddqd_by_hash.proofs.PlaceLemmas.{IsInSync-empty, IsInPlace-inserted, Keeps-removed, Keeps-compacted}
use Rattle.iddqd_groups.specs.ByHashMulti.{FilesWithin, HasSameIndexes}
use Rattle.iddqd_groups.specs.ByHashMultiLaws.{Files-rebound_same}
use Rattle.iddqd_map.proofs.IndexingLemmas.{Files-moved}
use Rattle.iddqd_map.specs.Files.{Files, IsMoveFor}
use Rattle.iddqd_map.specs.Groups.{AreHits}
use Rattle.iddqd_map.specs.Hashed.{moves}
use Rattle.iddqd_map.specs.KeyIndex.{PlansMove}
use Rattle.iddqd_map.specs.Map.{shares}
use Rattle.iddqd_map.specs.NoConflict.{never_alike, never_hit}

module _ {T : Type 0} where
  -- a next index past all slots is the number of items
  next_counted :
      (items : List (Option T)) (free : List ℕ) (limit : ℕ)
      → IsValid (record { items = items; free = free; limit = limit })
      → length items ≤ first_or free (length items)
      → first_or free (length items) ≡ count_by is_some items
  next_counted items [] limit valid past = (let counted = valid.counted in omega (arith, counted))
  next_counted items (ix ∷ rest) limit valid past =
      let inside = ((valid.vacant ix).0 (contains_head ix rest)).0 in
      omega (arith, inside, past)

  -- an insert adds no slot but that of the next index
  slots_filled :
      (items : List (Option T)) (free : List ℕ) (limit : ℕ) (item : T)
      → IsValid (record { items = items; free = free; limit = limit })
      → length (filled free items item) ≡ max (length items) (first_or free (length items) + 1)
  slots_filled items [] limit item valid = (let long = length_push items (Some item) in omega (arith, long))
  slots_filled items (ix ∷ rest) limit item valid =
      let long = length-set items ix (Some item) in
      let inside = ((valid.vacant ix).0 (contains_head ix rest)).0 in
      omega (arith, long, inside)

  -- where there is memory for one index more than there are items, the table has room for one
  pub room_beside :
      {A E : Type 0} (r : Result A E) (s : Store T) (x y : LinkedState)
      → Holds s x.filed
      → HasSameIndexes x y
      → OnOk r (live_count s + 1 ≤ y.capacity)
      → OnOk r (finite.len y.filed < y.capacity)
  room_beside (Ok done) s x y held same roomy =
      let counted = len-held s x.filed held in
      let kept = ap finite.len same.filed in
      omega (arith, counted, kept, roomy)
  room_beside (Err error) s x y held same roomy = tt

module _ {T K : Type 0} (key_of : T → K) (hashing : Hashing K) where
  pub Files-empty : (limit : ℕ) → Files key_of hashing (empty_within limit) finite.empty
  Files-empty limit = record { held = Holds-empty T limit; placed = (IsInSync-empty key_of hashing limit).placed }

  module _ (s : Store T) (m : FinMap nat_cmp ℕ) (o : Files key_of hashing s m) where
    pub Files-removed :
        (ix : ℕ) (item : T)
        → get s ix ≡ Some item
        → Files key_of hashing (removed s ix) (finite.remove m ix)
    Files-removed ix item live = record {
      held = Holds-removed s m o.held ix item live;
      placed = (Keeps-removed key_of hashing s m ix item live).placed o.placed;
    }

    pub Files-inserted :
        (item : T)
        → IsValid s
        → Files key_of hashing (inserted s item) (finite.insert m (next_index s) (hashing.hash_of (key_of item)))
    Files-inserted item valid = record {
      held = Holds-inserted s m o.held item (hashing.hash_of (key_of item)) valid;
      placed = IsInPlace-inserted key_of hashing s m item valid o.placed;
    }

    pub Files-compacted : (new : FinMap nat_cmp ℕ) → Renames (rank s) m new → Files key_of hashing (compacted s) new
    Files-compacted new named = record {
      held = Holds-compacted s m o.held new named;
      placed = (Keeps-compacted key_of hashing s m new named).placed o.placed;
    }

    -- the indexes of a group under the hash of its key are exactly the hits
    pub AreHits-group :
        (hash : ℕ) (test : K → Bool) (indexes : List ℕ)
        → StandsForOne hashing hash test
        → IsGroupOf key_of s m hash test indexes
        → AreHits s (passes_by key_of test) indexes
    AreHits-group hash test indexes one group =
        record { each = group.as_scan hashing one.hashed o.placed; once = group.once }

    -- a live index is given an item, as it was planned
    module _ (ix : ℕ) (item was : T) (live : get s ix ≡ Some was) where
      pub Files-rebound :
          IsLawful hashing
          → (plan : Move)
          → IsMoveFor key_of hashing s ix item plan
          → Files key_of hashing (rebound s ix item) (moved m ix plan)
      Files-rebound lawful Stays (y, is, alike) =
          let one : y ≡ was = (let e : Some y ≡ Some was = sym is ∙ live in cc) in
          Files-rebound_same key_of hashing s m lawful o ix item was live (rw one at alike)
      Files-rebound lawful (To hash) planned =
          Files-moved key_of hashing s m o ix item was live hash planned.1

  -- the same of a table that has a link for each slot and for no other
  pub FilesWithin-empty :
      (limit : ℕ) (x : LinkedState)
      → x.filed ≡ finite.empty
      → x.slots ≡ 0
      → FilesWithin key_of hashing (empty_within limit) x
  FilesWithin-empty limit x none no_slots = record {
    files = subst (Files key_of hashing (empty_within limit)) (sym none) (Files-empty limit);
    linked = no_slots;
  }

  module _ (s : Store T) (x : LinkedState) (o : FilesWithin key_of hashing s x) where
    -- a new index is below the number of slots that have a link, or is the number of indexes
    pub next_in_turn : IsValid s → x.slots ≤ next_index s → next_index s ≡ finite.len x.filed
    next_in_turn valid past =
        let within = o.linked in
        let beyond : slot_count s ≤ next_index s = omega (arith, within, past) in
        next_counted s.items s.free s.limit valid beyond ∙ sym (len-held s x.filed o.files.held)

    module _ (y : LinkedState) where
      pub FilesWithin-removed :
          (ix : ℕ) (item : T)
          → get s ix ≡ Some item
          → y.filed ≡ finite.remove x.filed ix
          → y.slots ≡ x.slots
          → FilesWithin key_of hashing (removed s ix) y
      FilesWithin-removed ix item live same stay = record {
        files =
            subst (Files key_of hashing (removed s ix)) (sym same) (Files-removed s x.filed o.files ix item live);
        linked = stay ∙ o.linked ∙ sym (length-set s.items ix None);
      }

      pub FilesWithin-inserted :
          (item : T)
          → IsValid s
          → y.filed ≡ finite.insert x.filed (next_index s) (hashing.hash_of (key_of item))
          → y.slots ≡ max x.slots (next_index s + 1)
          → FilesWithin key_of hashing (inserted s item) y
      FilesWithin-inserted item valid same more = record {
        files =
            subst (Files key_of hashing (inserted s item)) (sym same) (Files-inserted s x.filed o.files item valid);
        linked =
            (let long = slots_filled s.items s.free s.limit item valid in
            let linked = o.linked in
            omega (arith, long, more, linked));
      }

      pub FilesWithin-compacted :
          Renames (rank s) x.filed y.filed
          → y.slots ≡ finite.len y.filed
          → FilesWithin key_of hashing (compacted s) y
      FilesWithin-compacted named dense =
          let files = Files-compacted s x.filed o.files y.filed named in
          record {
            files = files;
            linked =
                dense
                ∙ len-held (compacted s) y.filed files.held
                ∙ live_count-compacted s
                ∙ sym (slot_count-compacted s);
          }

      pub FilesWithin-rebound :
          (ix : ℕ) (item was : T)
          → get s ix ≡ Some was
          → IsLawful hashing
          → (plan : Move)
          → IsMoveFor key_of hashing s ix item plan
          → y.filed ≡ moved x.filed ix plan
          → y.slots ≡ x.slots
          → FilesWithin key_of hashing (rebound s ix item) y
      FilesWithin-rebound ix item was live lawful plan planned same stay = record {
        files =
            subst (Files key_of hashing (rebound s ix item)) (sym same)
            (Files-rebound s x.filed o.files ix item was live lawful plan planned);
        linked = stay ∙ o.linked ∙ sym (length-set s.items ix (Some item));
      }

  -- the plan of a move, where no item conflicts
  pub PlansMove-free :
      (s : Store T) (ix : ℕ) (item : T) (plan : Move)
      → IsMoveFor key_of hashing s ix item plan
      → {C : Type 0} (taken : C → Type 0)
      → PlansMove (never_alike item) (shares key_of hashing.equal item)
      (IsMoveFor key_of hashing s ix item) moves taken s
      ix (Ok plan)
  PlansMove-free s ix item plan planned taken =
      (planned, λ j hit. absurd (never_hit s item j hit), moves_unlike plan planned)
    where
      moves_unlike :
          (plan : Move)
          → IsMoveFor key_of hashing s ix item plan
          → (was : T)
          → get s ix ≡ Some was
          → moves plan ≡ not (shares key_of hashing.equal item was)
      moves_unlike Stays (y, is, alike) was live =
          let one : y ≡ was = (let e : Some y ≡ Some was = sym is ∙ live in cc) in
          rw (← one, alike) refl
      moves_unlike (To hash) ((y, is, differs), hashed) was live =
          let one : y ≡ was = (let e : Some y ≡ Some was = sym is ∙ live in cc) in
          rw (← one) (sym differs)

-- a table that files a store by keys files it by items
module _
    {T K S H : Type 0} (key_of : T → K) (equal : K → K → Bool) (fed : K → List (List ℕ)) (b : builder.Ghosts S H)
    (h : hasher.Ghosts H) (state : S)
  where
    pub Files-items :
        (s : Store T) (m : FinMap nat_cmp ℕ)
        → Files key_of (hashing_of equal fed b h state) s m
        → Files (λ x. x) (item_hashing key_of equal fed b h state) s m
    Files-items s m o = record { held = o.held; placed = o.placed }
