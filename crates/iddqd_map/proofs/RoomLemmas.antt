-- How many items and how much room the calls of a map leave.
use Rattle.std.proofs.Common.{◌≡◌, ◌≢◌, ◌∙◌, inl, inr, ◌+◌, ◌≤◌, ℕ, Bool, true, List, [], ◌∷◌, length, Option, Some, None, is_some, refl, sym, ap, subst, arith}
use Rattle.std.specs.Prelude.{Result, Ok, Err, OnOk, OnErr, IfErr, OnSome, IfNone, IsOk}
use Rattle.std.specs.List.{Contains, count_by}
use Rattle.iddqd.specs.Store.{Store, IsFull, IsValid, get, live_count, next_index, removed}
use Rattle.iddqd.proofs.LiveCountLemmas.{live_count-inserted, live_count-removed}
use Rattle.iddqd.proofs.LiveLemmas.{get-inserted_other, next_vacant}
use Rattle.iddqd.proofs.StoreLemmas.{IsValid-inserted}
use Rattle.iddqd_keys.specs.KeyWalk.{index_with_item}
use Rattle.iddqd_keys.specs.Removals.{removed_all}
use Rattle.iddqd_keys.specs.Scan.{IsLive}
use Rattle.iddqd_keys.proofs.RemovalLemmas.{AreLiveInTurn, AreLiveInTurn-rising, IsValid-removed_all, live_count-removed_all, free-removed_all, limit-removed_all, count-padded}
use Rattle.iddqd_map.specs.Calls.{Inserts, InsertsAt, IsDuplicate, OverwritesAt, OverwritesInto, RefusesFull, RefusesMemory}
use Rattle.iddqd_map.specs.Map.{MapState, MapMemory, Removes, RemovesAt, capacity, room}
use Rattle.iddqd_map.specs.declared.refusal.InsertRefusal.{InsertRefusal}
use Rattle.iddqd_map.specs.declared.refusal.InsertRefusal.TheVariants.{Duplicate, Full, Memory}
use Rattle.iddqd_map.specs.declared.refusal.OverwriteRefusal.{OverwriteRefusal}
use Rattle.iddqd_map.specs.declared.refusal.OverwriteRefusal.TheVariants.{Full as NoSlot, Memory as NoMemory}
use Rattle.iddqd_map.proofs.OverwriteLemmas.{get-removed_all}

-- in the same memory, within the same limit
module _
    {T : Type 0} (old new : MapState T) (memory : new.memory ≡ old.memory)
    (limit : new.store.limit ≡ old.store.limit)
  where
    same_capacity : capacity new ≡ capacity old
    same_capacity =
        let slots = ap (λ (m : MapMemory). m.slots) memory in
        let holds = ap (λ (m : MapMemory). m.capacity) memory in
        omega (arith, slots, holds, limit)

    -- the room rises by as many as there are fewer items
    pub room-fewer :
        (n : ℕ)
        → live_count old.store ≡ live_count new.store + n
        → live_count old.store ≤ capacity old
        → room new ≡ room old + n
    room-fewer n fewer within = omega (arith, fewer, within, same_capacity)

    room-one_more : live_count new.store ≡ live_count old.store + 1 → 1 ≤ room old → room old ≡ room new + 1
    room-one_more more some = omega (arith, more, some, same_capacity)

    -- one more, but for those that come back
    room-exchanged :
        (n : ℕ)
        → live_count new.store + n ≡ live_count old.store + 1
        → 1 ≤ room old
        → room new + 1 ≡ room old + n
    room-exchanged n count some = omega (arith, count, some, same_capacity)

-- where there is room the store isn't full
module _ {T : Type 0} (m : MapState T) (valid : IsValid m.store) (some : 1 ≤ room m) where
  not_full : IsFull m.store → ⊥
  not_full full = omega (arith, some, valid.counted, ap length full.0, full.1)

-- ---- inserts

module _
    {T : Type 0} (alike : T → T → Bool) (most : ℕ → ℕ) (old new : MapState T) (item : T)
    (valid : IsValid old.store)
  where
    inserted-count : (ix : ℕ) → InsertsAt alike most old item ix new → live_count new.store ≡ live_count old.store + 1
    inserted-count ix did = ap live_count did.stored ∙ live_count-inserted old.store item valid did.not_full

    pub inserted-room : (ix : ℕ) → InsertsAt alike most old item ix new → 1 ≤ room old → room old ≡ room new + 1
    inserted-room ix did some =
        room-one_more old new (did.memory.had_room some) (ap (λ (s : Store T). s.limit) did.stored)
        (inserted-count ix did) some

    -- a refusal leaves no less room, and comes only where there is none
    full-room : (back : T) → RefusesFull alike most old item back new → room old ≤ room new
    full-room back refused = let same = ap room refused.unchanged in omega (arith, same)

    pub full-never : (back : T) → RefusesFull alike most old item back new → 1 ≤ room old → ⊥
    full-never back refused some = not_full old valid some refused.full

    pub memory-never : (back : T) → RefusesMemory alike most old item back new → 1 ≤ room old → ⊥
    memory-never back refused some = let none = refused.no_room in omega (arith, none, some)

    module _ {C : Type 0} (conflicts : Store T → T → C → Type 0) where
      -- one item more is there
      pub Inserts-count :
          (r : Result ℕ (InsertRefusal T C))
          → Inserts alike most conflicts old item r new
          → OnOk r (live_count new.store ≡ live_count old.store + 1)
      Inserts-count (Ok ix) did = inserted-count ix did
      Inserts-count (Err refusal) did = tt

      -- the room falls by one, or not at all
      pub Inserts-room :
          (r : Result ℕ (InsertRefusal T C))
          → Inserts alike most conflicts old item r new
          → OnOk r (1 ≤ room old → room old ≡ room new + 1)
      Inserts-room (Ok ix) did = inserted-room ix did
      Inserts-room (Err refusal) did = tt

      pub Inserts-room_kept :
          (r : Result ℕ (InsertRefusal T C))
          → Inserts alike most conflicts old item r new
          → OnErr r (room old ≤ room new)
      Inserts-room_kept (Ok ix) did = tt
      Inserts-room_kept (Err (Duplicate back at)) (given, reported, unchanged) =
          let same = ap room unchanged in omega (arith, same)
      Inserts-room_kept (Err (Full back)) refused = full-room back refused
      Inserts-room_kept (Err (Memory back)) refused = let none = refused.no_room in omega (arith, none)

      -- with room only a duplicate is refused
      pub Inserts-not_refused :
          (r : Result ℕ (InsertRefusal T C))
          → Inserts alike most conflicts old item r new
          → 1 ≤ room old
          → IfErr r IsDuplicate
      Inserts-not_refused (Ok ix) did some = tt
      Inserts-not_refused (Err (Duplicate back at)) refused some = tt
      Inserts-not_refused (Err (Full back)) refused some = absurd (full-never back refused some)
      Inserts-not_refused (Err (Memory back)) refused some = absurd (memory-never back refused some)

    -- ---- inserts that overwrite, of items with several keys

    module _ (places : ℕ) where
      module _ (ix : ℕ) (back : List (Option (ℕ × T))) (did : OverwritesAt alike most places old item ix back new) where
        conflict_live : (j : ℕ) → Contains did.conflicts j → IsLive old.store j
        conflict_live j here = let (one, live, shares) = (did.are_conflicts.each j).0 here in ap is_some live

        conflict_there : (j : ℕ) → Contains did.conflicts j → is_some (index_with_item old.store j) ≡ true
        conflict_there j here = let (one, live, shares) = (did.are_conflicts.each j).0 here in rw live refl

        in_turn : AreLiveInTurn old.store did.conflicts
        in_turn = AreLiveInTurn-rising old.store did.conflicts did.are_conflicts.rising conflict_live

        -- once items were removed the store isn't full
        full_without : (l : List ℕ) → did.conflicts ≡ l → IsFull (removed_all old.store l) → ⊥
        full_without [] none full =
            did.not_full (λ j hit. (let here = (did.are_conflicts.each j).1 hit in
            let nowhere = subst (λ xs. Contains xs j) none here in
            omega (arith, nowhere.1))) full
        full_without (j ∷ rest) some full =
            let free = free-removed_all old.store (j ∷ rest) in
            omega (arith, free, ap length full.0)

        pub overwritten-valid : IsValid new.store
        overwritten-valid =
            let left = removed_all old.store did.conflicts in
            let valid_left = IsValid-removed_all old.store did.conflicts in_turn valid in
            subst IsValid (sym did.stored) (IsValid-inserted left item valid_left (full_without did.conflicts refl))

        pub overwritten-limit : new.store.limit ≡ old.store.limit
        overwritten-limit = ap (λ (s : Store T). s.limit) did.stored ∙ limit-removed_all old.store did.conflicts

        -- what was there and shares no key is still there
        pub overwritten-stays :
            (j : ℕ) (x : T)
            → get old.store j ≡ Some x
            → (Contains did.conflicts j → ⊥)
            → get new.store j ≡ Some x
        overwritten-stays j x live apart =
            let left = removed_all old.store did.conflicts in
            let valid_left = IsValid-removed_all old.store did.conflicts in_turn valid in
            let there : get left j ≡ Some x = get-removed_all old.store did.conflicts j apart ∙ live in
            let other : j ≢ next_index left = λ same.
            let none : get left j ≡ None = subst (λ k. get left k ≡ None) (sym same) (next_vacant left valid_left) in
            absurd (cc) in
            subst (λ s. get s j ≡ Some x) (sym did.stored) (get-inserted_other left item j other ∙ there)

        pub overwritten-count : live_count new.store + count_by is_some back ≡ live_count old.store + 1
        overwritten-count =
            let left = removed_all old.store did.conflicts in
            let valid_left = IsValid-removed_all old.store did.conflicts in_turn valid in
            let fewer = live_count-removed_all old.store did.conflicts in_turn valid in
            let one = live_count-inserted left item valid_left (full_without did.conflicts refl) in
            let stored = ap live_count did.stored in
            let taken = ap (count_by is_some) did.items ∙ count-padded (index_with_item old.store) places did.conflicts did.at_most conflict_there in
            omega (arith, fewer, one, stored, taken)

        pub overwritten-room : 1 ≤ room old → room new + 1 ≡ room old + count_by is_some back
        overwritten-room some =
            room-exchanged old new (did.memory.had_room some)
            (ap (λ (s : Store T). s.limit) did.stored ∙ limit-removed_all old.store did.conflicts)
            (count_by is_some back) overwritten-count some

      module _ (may_need_memory : Bool) where
        -- as many more are there as weren't displaced
        pub OverwritesInto-count :
            (r : Result ℕ (OverwriteRefusal T)) (back : List (Option (ℕ × T)))
            → OverwritesInto alike most may_need_memory places old item r back new
            → OnOk r (live_count new.store + count_by is_some back ≡ live_count old.store + 1)
        OverwritesInto-count (Ok ix) back did = overwritten-count ix back did
        OverwritesInto-count (Err refusal) back did = tt

        -- and with room, so much less is left
        pub OverwritesInto-room :
            (r : Result ℕ (OverwriteRefusal T)) (back : List (Option (ℕ × T)))
            → OverwritesInto alike most may_need_memory places old item r back new
            → OnOk r (1 ≤ room old → room new + 1 ≡ room old + count_by is_some back)
        OverwritesInto-room (Ok ix) back did = overwritten-room ix back did
        OverwritesInto-room (Err refusal) back did = tt

        pub OverwritesInto-unchanged :
            (r : Result ℕ (OverwriteRefusal T)) (back : List (Option (ℕ × T)))
            → OverwritesInto alike most may_need_memory places old item r back new
            → OnErr r (new.store ≡ old.store)
        OverwritesInto-unchanged (Ok ix) back did = tt
        OverwritesInto-unchanged (Err (NoSlot given)) back did = ap (λ (m : MapState T). m.store) did.0.unchanged
        OverwritesInto-unchanged (Err (NoMemory given)) back did = elim did.0 [
          | inl none ↦ none.store_stays
          | inr lacks ↦ ap (λ (m : MapState T). m.store) lacks.unchanged
        ]

        -- with room nothing is refused
        pub OverwritesInto-not_refused :
            (r : Result ℕ (OverwriteRefusal T)) (back : List (Option (ℕ × T)))
            → OverwritesInto alike most may_need_memory places old item r back new
            → 1 ≤ room old
            → IsOk r
        OverwritesInto-not_refused (Ok ix) back did some = refl
        OverwritesInto-not_refused (Err (NoSlot given)) back did some = absurd (full-never given did.0 some)
        OverwritesInto-not_refused (Err (NoMemory given)) back did some = absurd (elim did.0 [
          | inl none ↦ memory-never given none some
          | inr lacks ↦ let past = lacks.past in omega (arith, past, some)
        ])

-- ---- removals

module _ {T : Type 0} (old new : MapState T) (valid : IsValid old.store) where
  removed-count :
      (ix : ℕ) (item : T)
      → get old.store ix ≡ Some item
      → new.store ≡ removed old.store ix
      → live_count old.store ≡ live_count new.store + 1
  removed-count ix item live left =
      live_count-removed old.store ix item valid live ∙ ap (λ s. live_count s + 1) (sym left)

  removed-room :
      (ix : ℕ) (item : T)
      → get old.store ix ≡ Some item
      → new.store ≡ removed old.store ix
      → new.memory ≡ old.memory
      → live_count old.store ≤ capacity old
      → room new ≡ room old + 1
  removed-room ix item live left memory =
      room-fewer old new memory (ap (λ (s : Store T). s.limit) left) 1 (removed-count ix item live left)

  module _ (test : T → Bool) where
    -- one item less is there
    pub Removes-count :
        (r : Option T)
        → Removes old test r new
        → OnSome r (live_count old.store ≡ live_count new.store + 1)
    Removes-count None removes = tt
    Removes-count (Some item) removes = removed-count removes.ix item removes.hit.live removes.left

    -- the room rises by one
    pub Removes-freed :
        (r : Option T)
        → Removes old test r new
        → OnSome r (live_count old.store ≤ capacity old → room new ≡ room old + 1)
    Removes-freed None removes = tt
    Removes-freed (Some item) removes =
        removed-room removes.ix item removes.hit.live removes.left removes.memory

    pub Removes-unchanged : (r : Option T) → Removes old test r new → IfNone r (new ≡ old)
    Removes-unchanged None removes = removes.1
    Removes-unchanged (Some item) removes = tt

  module _ (ix : ℕ) where
    pub RemovesAt-count :
        (r : Option T)
        → RemovesAt old ix r new
        → OnSome r (live_count old.store ≡ live_count new.store + 1)
    RemovesAt-count None removes = tt
    RemovesAt-count (Some item) (live, left, memory) = removed-count ix item live left

    pub RemovesAt-freed :
        (r : Option T)
        → RemovesAt old ix r new
        → OnSome r (live_count old.store ≤ capacity old → room new ≡ room old + 1)
    RemovesAt-freed None removes = tt
    RemovesAt-freed (Some item) (live, left, memory) = removed-room ix item live left memory

    pub RemovesAt-unchanged : (r : Option T) → RemovesAt old ix r new → IfNone r (new ≡ old)
    RemovesAt-unchanged None removes = removes.1
    RemovesAt-unchanged (Some item) removes = tt
