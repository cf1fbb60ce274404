-- What the calls of items with three keys answer and leave, from what their steps promise.
use Rattle.std.proofs.Common.{◌≡◌, inl, inr, ◌↔◌, ℕ, Bool, List, [], ◌∷◌, map, Option, Some, None, Result, Ok, Err, refl, sym, subst}
use Rattle.std.specs.List.{Contains}
use Rattle.std.specs.Option.{OnSome, IfNone}
use Rattle.std.specs.Ordering.{nat_cmp}
use Rattle.std.specs.FinMap.{FinMap}
use Rattle.std.specs.Result.{IsOk, IfOk, OnOk, IfErr, OnErr}
use Rattle.iddqd.specs.Store.{Store, IsFull, get, next_index, inserted, removed}
use Rattle.iddqd.specs.ItemSet.{SizedStore}
use Rattle.iddqd.proofs.LiveLemmas.{live_at}
use Rattle.iddqd.proofs.StoreLemmas.{contains_head, contains_none}
use Rattle.iddqd_keys.specs.Scan.{IsLive, IsHit, passes_by}
use Rattle.iddqd_by_hash.specs.Hashed.{IsLawful, IsInSync, Finds, LooksUp}
use Rattle.iddqd_by_hash.proofs.FindLemmas.{StandsForOne-key}
use Rattle.iddqd_keys.proofs.ScanLemmas.{scan_hits}
use Rattle.iddqd_tri.specs.Clashes.{IsOneOf, AreInOrder}
use Rattle.iddqd_tri.specs.TriKeys.{ItemKey, TriKeys, hashing_in, shares, hashes_in}
use Rattle.iddqd_keys.specs.Removals.{removed_all}
use Rattle.iddqd_tri.specs.TriState.{Maps, TriState, unbound_all, inserted_state, maps_without, maps_without_all, maps_with, IsTriState, ClashesAt, HasNoClash, AreClashes}
use Rattle.iddqd_tri.specs.TriTables.{maps_of, tri_state_of}
use Rattle.iddqd_keys.specs.Removals.{padded}
use Rattle.iddqd_tri.specs.TriCalls.{FindsOne, RefusesItem, Overwriting, HasNoPlace}
use Rattle.iddqd_tri.specs.declared.tri_tables.TriTables.{TriTables}
use Rattle.iddqd_tri.specs.declared.tri_refusal.TriRefusal.{TriRefusal}
use Rattle.iddqd_tri.specs.declared.tri_refusal.TriRefusal.TheVariants.{Full, Memory}
use Rattle.iddqd_keys.proofs.RemovalLemmas.{AreLiveInTurn, AreLiveInTurn-rising}
use Rattle.iddqd_tri.proofs.ClashLemmas.{listed, Contains-listed, IsIncreasing-listed, at_most_three}
use Rattle.iddqd_tri.proofs.TriLemmas.{AreLawful, IsTriState-unbound, IsTriState-unbound_all, IsTriState-inserted_state, HasNoClash-removed}

-- what an insert answers that gives no item back
abbrev pub with_none : {T E : Type 0} → Result ℕ E → Result (ℕ × List (Option T)) E
with_none (Ok ix) = Ok (ix, padded 3 [])
with_none (Err error) = Err error

-- look-ups in a table that is exact
module _
    {T K S : Type 0} (key : ItemKey T K S) (s : TriState T S) (m : FinMap nat_cmp ℕ)
    (exact : IsInSync key.key_of (hashing_in key s.hasher) s.store m)
  where
    pub FindsOne-exact :
        (hash : ℕ) (test : K → Bool) (r : Option ℕ)
        → LooksUp key.key_of s.store m hash test r
        → FindsOne key s hash test r
    FindsOne-exact hash test r looks = record {
      hit = λ ix is. (subst (λ o. Finds s.store m hash (passes_by key.key_of test) o) is looks.found).hit;
      as_scan = λ one. looks.as_scan (hashing_in key s.hasher) one exact;
    }

    -- a look-up by the key of an item hits exactly the index that shares it
    pub shares_found :
        (item : T) (hash : ℕ) (r : Option ℕ)
        → IsLawful (hashing_in key s.hasher)
        → hash ≡ key.hash_in s.hasher (key.key_of item)
        → LooksUp key.key_of s.store m hash (key.equal (key.key_of item)) r
        → (ix : ℕ)
        → (r ≡ Some ix) ↔ IsHit s.store (shares key item) ix
    shares_found item hash r lawful hashed looks ix =
        let hashing = hashing_in key s.hasher in
        scan_hits s.store (shares key item) r (looks.as_scan hashing (StandsForOne-key hashing (key.key_of item) hash lawful hashed) exact) ix

-- a store with a free index isn't full
pub not_full_after : {T : Type 0} (s : Store T) (ix : ℕ) (rest : List ℕ) → IsFull (removed_all s (ix ∷ rest)) → ⊥
not_full_after s ix [] full = let none = full.0 in cc
not_full_after s ix (next ∷ rest) full = not_full_after (removed s ix) next rest full

module _ {T K1 K2 K3 S : Type 0} (keys : TriKeys T K1 K2 K3 S) where
  pub ClashesAt-found :
      (s : Store T) (item : T) (ix : ℕ) (a b c : Option ℕ)
      → ((a ≡ Some ix) ↔ IsHit s (shares keys.first item) ix)
      → ((b ≡ Some ix) ↔ IsHit s (shares keys.second item) ix)
      → ((c ≡ Some ix) ↔ IsHit s (shares keys.third item) ix)
      → IsOneOf a b c ix ↔ ClashesAt keys s item ix
  ClashesAt-found s item ix a b c one two three = (
    λ there. elim there [
      | inl is ↦ inl (one.0 is)
      | inr rest ↦ elim rest [ inl is ↦ inr (inl (two.0 is)) | inr is ↦ inr (inr (three.0 is)) ]
    ],
    λ clash. elim clash [
      | inl hit ↦ inl (one.1 hit)
      | inr rest ↦ elim rest [ inl hit ↦ inr (inl (two.1 hit)) | inr hit ↦ inr (inr (three.1 hit)) ]
    ],
  )

  pub ClashesAt-live : (s : Store T) (item : T) (ix : ℕ) → ClashesAt keys s item ix → IsLive s ix
  ClashesAt-live s item ix clash = elim clash [
    | inl hit ↦ live_at s ix hit.0 hit.1
    | inr rest ↦ elim rest [ inl hit ↦ live_at s ix hit.0 hit.1 | inr hit ↦ live_at s ix hit.0 hit.1 ]
  ]

  -- the options in order that are the clashes, as a list
  pub AreClashes-listed :
      (s : Store T) (item : T) (a b c : Option ℕ)
      → AreInOrder a b c
      → ((ix : ℕ) → IsOneOf a b c ix ↔ ClashesAt keys s item ix)
      → AreClashes keys s item (listed a b c)
  AreClashes-listed s item a b c ordered each = record {
    each = λ ix. (λ here. (each ix).0 ((Contains-listed ix a b c).0 here), λ clash. (Contains-listed ix a b c).1 ((each ix).1 clash));
    rising = IsIncreasing-listed a b c ordered;
    at_most_three = at_most_three a b c ordered;
  }

  -- where there are none, the item clashes with none
  pub HasNoClash-none :
      (s : Store T) (item : T) (clashes : List ℕ)
      → clashes ≡ []
      → AreClashes keys s item clashes
      → HasNoClash keys s item
  HasNoClash-none s item clashes none are = λ ix clash. contains_none ix (subst (λ cs. Contains cs ix) none ((are.each ix).1 clash))

  -- the removal of an index, if it is live
  pub IsTriState-taken :
      (hasher : S) (old new : SizedStore T) (tables after : TriTables) (ix : ℕ) (r : Option T)
      → r ≡ get old.store ix
      → OnSome r (new.store ≡ removed old.store ix)
      → OnSome r (maps_of after ≡ maps_without (maps_of tables) ix)
      → IfNone r (new ≡ old)
      → IfNone r (after ≡ tables)
      → IsTriState keys (tri_state_of hasher old.store tables)
      → IsTriState keys (tri_state_of hasher new.store after)
  IsTriState-taken hasher old new tables after ix None is removed taken same_items same_tables o = rw (same_items, same_tables) o
  IsTriState-taken hasher old new tables after ix (Some item) is removed taken same_items same_tables o =
      let was = IsTriState-unbound keys (tri_state_of hasher old.store tables) ix item (sym is) o in
      rw (removed, taken) was

  -- an insert over the clashes of an item
  module _ (s : TriState T S) (item : T) (lawful : AreLawful keys s.hasher) (o : IsTriState keys s) where
    module _ (clashes : List ℕ) (are : AreClashes keys s.store item clashes) where
      live : AreLiveInTurn s.store clashes
      live = AreLiveInTurn-rising s.store clashes are.rising (λ ix here. ClashesAt-live s.store item ix ((are.each ix).0 here))

      pub IsTriState-overwritten :
          (IsFull (removed_all s.store clashes) → ⊥)
          → IsTriState keys (inserted_state keys (unbound_all s clashes) item)
      IsTriState-overwritten not_full =
          IsTriState-inserted_state keys (unbound_all s clashes) item lawful not_full (HasNoClash-removed keys s.store item clashes live are) (IsTriState-unbound_all keys s clashes live o)

      pub overwritten :
          (r : Result (ℕ × List (Option T)) (TriRefusal T)) (store : Store T) (maps : Maps)
          → OnOk r (IsFull (removed_all s.store clashes) → ⊥)
          → OnOk r (HasNoClash keys s.store item → IsFull s.store → ⊥)
          → IfOk r (λ p. p.0 ≡ next_index (removed_all s.store clashes))
          → IfOk r (λ p. p.1 ≡ padded 3 (map (get s.store) clashes))
          → OnOk r (store ≡ inserted (removed_all s.store clashes) item)
          → OnOk r (maps ≡ maps_with (maps_without_all s.maps clashes) (next_index (removed_all s.store clashes))
          (hashes_in keys s.hasher item))
          → IfErr r (λ e. RefusesItem keys s item e s)
          → OnErr r (store ≡ s.store)
          → OnErr r (maps ≡ s.maps)
          → IsTriState keys (record s { store = store; maps = maps }) × Overwriting keys s item r
          (record s { store = store; maps = maps })
      overwritten (Ok (ix, back)) store maps not_full place index values stored added refused items_stay maps_stay = (
        rw (stored, added) (IsTriState-overwritten not_full),
        record {
          clashes = clashes;
          are_clashes = are;
          place = place;
          items = values;
          index = index;
          state = rw (stored, added) refl;
        },
      )
      overwritten (Err (Full back)) store maps not_full place index values stored added refused items_stay maps_stay =
          (rw (items_stay, maps_stay) o, (refused.0, refused.1, refused.2, rw (items_stay, maps_stay) refl))
      overwritten (Err (Memory back)) store maps not_full place index values stored added refused items_stay maps_stay =
          (rw (items_stay, maps_stay) o, (refused.0, refused.1, rw (items_stay, maps_stay) refl))

    none_clash :
        (clashes : List ℕ)
        → clashes ≡ []
        → AreClashes keys s.store item clashes
        → AreClashes keys s.store item []
    none_clash clashes is_empty are = subst (λ cs. AreClashes keys s.store item cs) is_empty are

    refuses :
        AreClashes keys s.store item []
        → (refusal : TriRefusal T)
        → HasNoPlace s.store item refusal
        → RefusesItem keys s item refusal s
    refuses none (Full back) refused = (refused.0, HasNoClash-none s.store item [] refl none, refused.1, refl)
    refuses none (Memory back) refused = (refused.0, (λ _. refused.1), refl)

    -- an insert where nothing clashes
    pub inserted_apart :
        (clashes : List ℕ)
        → clashes ≡ []
        → AreClashes keys s.store item clashes
        → (r : Result ℕ (TriRefusal T)) (store : Store T) (maps : Maps)
        → (IsOk r → IsFull s.store → ⊥)
        → IfOk r (λ ix. ix ≡ next_index s.store)
        → OnOk r (store ≡ inserted s.store item)
        → OnOk r (maps ≡ maps_with s.maps (next_index s.store) (hashes_in keys s.hasher item))
        → IfErr r (HasNoPlace s.store item)
        → OnErr r (store ≡ s.store)
        → OnErr r (maps ≡ s.maps)
        → IsTriState keys (record s { store = store; maps = maps }) × Overwriting keys s item (with_none r)
        (record s { store = store; maps = maps })
    inserted_apart clashes is_empty are (Ok ix) store maps not_full index stored added refused items_stay maps_stay =
        overwritten [] (none_clash clashes is_empty are) (Ok (ix, padded 3 [])) store maps (not_full refl) (λ _. not_full refl) index refl stored added tt tt tt
    inserted_apart clashes is_empty are (Err refusal) store maps not_full index stored added refused items_stay maps_stay =
        overwritten [] (none_clash clashes is_empty are) (Err refusal) store maps tt tt tt tt tt tt (refuses (none_clash clashes is_empty are) refusal refused) items_stay maps_stay

    -- an insert over some clashes
    pub inserted_over :
        (clashes : List ℕ) (x : ℕ) (rest : List ℕ)
        → clashes ≡ x ∷ rest
        → AreClashes keys s.store item clashes
        → (r : ℕ × List (Option T)) (store : Store T) (maps : Maps)
        → r.0 ≡ next_index (removed_all s.store clashes)
        → r.1 ≡ padded 3 (map (get s.store) clashes)
        → store ≡ inserted (removed_all s.store clashes) item
        → maps ≡ maps_with (maps_without_all s.maps clashes) (next_index (removed_all s.store clashes))
        (hashes_in keys s.hasher item)
        → IsTriState keys (record s { store = store; maps = maps }) × Overwriting keys s item (Ok r)
        (record s { store = store; maps = maps })
    inserted_over clashes x rest some are r store maps index values stored added =
        overwritten clashes are (Ok r) store maps not_full place index values stored added tt tt tt
      where
        not_full : IsFull (removed_all s.store clashes) → ⊥
        not_full = rw some (not_full_after s.store x rest)

        place : HasNoClash keys s.store item → IsFull s.store → ⊥
        place none full = none x ((are.each x).0 (rw some (contains_head x rest)))
