-- What calls that empty a map or insert many items leave.
use Rattle.std.proofs.Common.{◌≡◌, ◌≢◌, ◌∙◌, ◌+◌, ◌-◌, ◌<◌, ◌≤◌, ℕ, Bool, true, List, [], ◌∷◌, ◌++◌, length, drop, Option, Some, None, refl, sym, ap, subst, arith}
use Rattle.std.specs.Prelude.{Err, Result}
use Rattle.std.specs.Fn.{Mut}
use Rattle.std.specs.Iterator.{Count, IsFinite, IsNearerEnd, MakesProgress, UpTo, YieldsThen, size}
use Rattle.std.specs.List.{FoldsTo}
use Rattle.std.specs.declared.alloc.AllocError.{AllocError}
use Rattle.std.proofs.lemmas.List.{at_drop_more, drop_all}
use Rattle.iddqd.specs.Store.{Store, IsValid, empty, get, live_count, next_index, removed, slot_limit}
use Rattle.iddqd.specs.LiveItems.{items_in, live_items}
use Rattle.iddqd.proofs.LiveCountLemmas.{live_count-inserted}
use Rattle.iddqd.proofs.LiveLemmas.{get-inserted_other, get-removed_other, next_vacant}
use Rattle.iddqd.proofs.StoreLemmas.{IsValid-empty, IsValid-inserted}
use Rattle.iddqd_map.specs.Bulk.{InsertsItems, InsertsUntil, MakesOf, RefusesOneOf, inserted_all}
use Rattle.iddqd_map.specs.Calls.{Inserts, InsertsAt}
use Rattle.iddqd_map.specs.Map.{MapState, empty_map, room}
use Rattle.iddqd_map.specs.Memory.{ReservesItems}
use Rattle.iddqd_map.specs.Ranges.{TakesItem, GivesItem}
use Rattle.iddqd_map.specs.Retain.{AsksInTurn}
use Rattle.iddqd_map.specs.declared.refusal.InsertRefusal.{InsertRefusal}
use Rattle.iddqd_map.specs.declared.refusal.InsertRefusal.TheVariants.{Duplicate, Full, Memory}

-- items that are given away along the slots
module _ {F T : Type 0} (g : Mut F (T × Unit {0}) (Unit {0})) where
  abbrev pub MayGiveAll : F → List T → Type 0
  MayGiveAll f items = AsksInTurn (TakesItem g) (λ p x (b : Bool) q. GivesItem g p x q) f items

  -- the items of the slots before p were given away, and from p on all is as it was
  pub record Giving (f : F) (old now : Store T) (p : ℕ) (state : F) : Type 0 where
    pub asks : MayGiveAll state (items_in (drop p old.items))
    pub given : (last : F)
        → FoldsTo (GivesItem g) state (items_in (drop p old.items)) last
        → FoldsTo (GivesItem g) f (live_items old) last
    pub rest : (j : ℕ) → p ≤ j → get now j ≡ get old j
    pub limit : now.limit ≡ old.limit

  pub Giving-first : (f : F) (old : Store T) → MayGiveAll f (live_items old) → Giving f old old 0 f
  Giving-first f old asks = record {
    asks = asks;
    given = λ last along. along;
    rest = λ j from. refl;
    limit = refl;
  }

  module _ (f : F) (old now : Store T) (p : ℕ) (state : F) (w : Giving f old now p state) where
    -- all slots
    pub Giving-all : length old.items ≤ p → FoldsTo (GivesItem g) f (live_items old) state
    Giving-all past =
        let none : items_in (drop p old.items) ≡ [] = ap items_in (drop_all p old.items past) in
        w.given state (subst (λ l. FoldsTo (GivesItem g) state l state) (sym none) refl)

    module _ (within : p < length old.items) where
      to_come :
          (slot : Option T)
          → get now p ≡ slot
          → items_in (drop p old.items) ≡ items_in (slot ∷ drop (p + 1) old.items)
      to_come slot is =
          let was : get old p ≡ slot = sym (w.rest p (omega arith)) ∙ is in
          ap items_in (at_drop_more (λ l. l) old.items p None within) ∙ ap (λ o. items_in (o ∷ drop (p + 1) old.items)) was

      -- a slot without an item
      pub Giving-vacant : get now p ≡ None → Giving f old now (p + 1) state
      Giving-vacant vacant =
          let come = to_come None vacant in
          record {
            asks = subst (MayGiveAll state) come w.asks;
            given = λ last along. w.given last (subst (λ l. FoldsTo (GivesItem g) state l last) (sym come) along);
            rest = λ j from. w.rest j (omega arith);
            limit = w.limit;
          }

      module _ (item : T) (live : get now p ≡ Some item) where
        asks-next : MayGiveAll state (item ∷ items_in (drop (p + 1) old.items))
        asks-next = subst (MayGiveAll state) (to_come (Some item) live) w.asks

        -- its item may be given to the closure
        pub Giving-takes : TakesItem g state item
        Giving-takes = asks-next.0

        pub Giving-given :
            (after : F) (then : Store T)
            → GivesItem g state item after
            → then ≡ removed now p
            → Giving f old then (p + 1) after
        Giving-given after then gives is =
            rw is
            (record {
              asks = asks-next.1 true after gives;
              given = λ last along.
                  w.given last
                  (subst (λ l. FoldsTo (GivesItem g) state l last) (sym (to_come (Some item) live)) (after, gives, along));
              rest = λ j from. get-removed_other now p j (λ same. omega (arith, from, same)) ∙ w.rest j (omega arith);
              limit = w.limit;
            })

-- items that are inserted in turn
module _ {T : Type 0} (alike : T → T → Bool) (grown : ℕ → ℕ) where
  abbrev pub InsertsOne : MapState T → T → MapState T → Type 0
  InsertsOne m item n = (ix : ℕ) × InsertsAt alike grown m item ix n

  pub IsValid-one : (old new : MapState T) (item : T) → IsValid old.store → InsertsOne old item new → IsValid new.store
  IsValid-one old new item valid (ix, did) = subst IsValid (sym did.stored) (IsValid-inserted old.store item valid did.not_full)

  count-one :
      (old new : MapState T) (item : T)
      → IsValid old.store
      → InsertsOne old item new
      → live_count new.store ≡ live_count old.store + 1
  count-one old new item valid (ix, did) = ap live_count did.stored ∙ live_count-inserted old.store item valid did.not_full

  -- fewer items are missing up to the limit
  pub nearer_limit :
      (old new : MapState T) (item : T)
      → IsValid old.store
      → InsertsOne old item new
      → new.store.limit - live_count new.store < old.store.limit - live_count old.store
  nearer_limit old new item valid did =
      let after = IsValid-one old new item valid did in
      let one = count-one old new item valid did in
      let limit = ap (λ (s : Store T). s.limit) did.1.stored in
      omega (arith, one, limit, after.counted, after.small)

  -- as many items more are there
  pub count-along :
      (items : List T) (old new : MapState T)
      → IsValid old.store
      → FoldsTo InsertsOne old items new
      → live_count new.store ≡ live_count old.store + length items
  count-along [] old new valid same = let e = ap (λ (m : MapState T). live_count m.store) same in omega (arith, e)
  count-along (item ∷ items) old new valid (next, did, then) =
      let one = count-one old next item valid did in
      let more = count-along items next new (IsValid-one old next item valid did) then in
      omega (arith, one, more)

  -- a vacant index is the next one
  live_apart : (s : Store T) (ix : ℕ) (x : T) → IsValid s → get s ix ≡ Some x → ix ≢ next_index s
  live_apart s ix x valid live same =
      let none : get s ix ≡ None = subst (λ k. get s k ≡ None) (sym same) (next_vacant s valid) in
      absurd (cc)

  -- all items that there were stay
  pub stays-along :
      (items : List T) (old new : MapState T)
      → IsValid old.store
      → FoldsTo InsertsOne old items new
      → (ix : ℕ) (x : T)
      → get old.store ix ≡ Some x
      → get new.store ix ≡ Some x
  stays-along [] old new valid same ix x live = subst (λ (m : MapState T). get m.store ix ≡ Some x) same live
  stays-along (item ∷ items) old new valid (next, did, then) ix x live =
      let here = get-inserted_other old.store item ix (live_apart old.store ix x valid live) ∙ live in
      let stays = subst (λ s. get s ix ≡ Some x) (sym did.1.stored) here in
      stays-along items next new (IsValid-one old next item valid did) then ix x stays

-- inserts from an iterator, one after the other
module _
    {I T : Type 0} (can : I → Type 0) (gives : I → Option T → I → Type 0) (remaining : I → Count)
    (alike : T → T → Bool) (grown : ℕ → ℕ)
  where
    -- no item
    pub InsertsItems-none :
        (it rest : I) (now : MapState T) (next : Option T)
        → gives it next rest
        → InsertsItems gives alike grown it now [] next rest now
    InsertsItems-none it rest now next ends = record { given = (it, refl, ends); in_turn = refl; stored = refl }

    -- an item, and then those that follow
    InsertsItems-first :
        (it then : I) (old mid : MapState T) (item : T)
        → gives it (Some item) then
        → InsertsOne alike grown old item mid
        → (items : List T) (next : Option T) (rest : I) (new : MapState T)
        → InsertsItems gives alike grown then mid items next rest new
        → InsertsItems gives alike grown it old (item ∷ items) next rest new
    InsertsItems-first it then old mid item step did items next rest new more =
        let (last, came, ends) = more.given in
        record {
          given = (last, (then, step, came), ends);
          in_turn = (mid, did, more.in_turn);
          stored = more.stored ∙ ap (λ s. inserted_all s items) did.1.stored;
        }

    -- So far each item was inserted. What the inserts that are still to come do is what all of them do.
    pub record Inserting (start : I) (old : MapState T) (it : I) (now : MapState T) : Type 0 where
      pub may_go_on : can it
      pub valid : IsValid now.store
      pub along : (items : List T) (next : Option T) (rest : I) (new : MapState T)
          → InsertsItems gives alike grown it now items next rest new
          → (all : List T) × InsertsItems gives alike grown start old all next rest new
      pub nearer : IsFinite (remaining start)
          → IsFinite (remaining it) × (size (remaining it) ≤ size (remaining start))
      pub roomy : UpTo (remaining start) (room old) → size (remaining it) ≤ room now

    pub Inserting-first :
        (start : I) (old : MapState T)
        → can start
        → IsValid old.store
        → Inserting start old start old
    Inserting-first start old may valid = record {
      may_go_on = may;
      valid = valid;
      along = λ items next rest new run. (items, run);
      nearer = λ finite. (finite, omega arith);
      roomy = λ fits. fits.1;
    }

    module _
        (start it then : I) (old now : MapState T) (item : T) (w : Inserting start old it now)
        (step : gives it (Some item) then) (goes : MakesProgress can remaining it (Some item) then)
      where
        -- the iterator is nearer its end
        pub Inserting-nearer : IsFinite (remaining start) → IsNearerEnd can remaining start then
        Inserting-nearer finite =
            let (is_finite, most) = w.nearer finite in
            let (may, ends, less) = goes.on is_finite in
            (may, ends, omega (arith, most, less))

        -- and if there was room for all, there is room for this item
        pub Inserting-room : UpTo (remaining start) (room old) → 1 ≤ room now
        Inserting-room fits =
            let (is_finite, most) = w.nearer fits.0 in
            let (may, ends, less) = goes.on is_finite in
            omega (arith, less, w.roomy fits)

        pub Inserting-one :
            (ix : ℕ) (new : MapState T)
            → InsertsAt alike grown now item ix new
            → (1 ≤ room now → room now ≡ room new + 1)
            → Inserting start old then new
        Inserting-one ix new did one = record {
          may_go_on = goes.keeps;
          valid = IsValid-one alike grown now new item w.valid (ix, did);
          along = λ items next rest last run.
              w.along (item ∷ items) next rest last
              (InsertsItems-first it then now new item step (ix, did) items next rest last run);
          nearer = λ finite.
              let (is_finite, most) = w.nearer finite in
              let (may, ends, less) = goes.on is_finite in
              (ends, omega (arith, most, less));
          roomy = λ fits.
              let (is_finite, most) = w.nearer fits.0 in
              let (may, ends, less) = goes.on is_finite in
              omega (arith, less, w.roomy fits, one (Inserting-room fits));
        }

-- up to the end, or to the first refusal
module _
    {I T C : Type 0} (gives : I → Option T → I → Type 0) (alike : T → T → Bool) (grown : ℕ → ℕ)
    (conflicts : Store T → T → C → Type 0)
  where
    store_of_refused :
        (before new : MapState T) (item : T) (refusal : InsertRefusal T C)
        → Inserts alike grown conflicts before item (Err refusal) new
        → new.store ≡ before.store
    store_of_refused before new item (Duplicate back at) (given, reported, unchanged) = ap (λ (m : MapState T). m.store) unchanged
    store_of_refused before new item (Full back) refused = ap (λ (m : MapState T). m.store) refused.unchanged
    store_of_refused before new item (Memory back) refused = refused.store_stays

    -- as many items more are there
    InsertsUntil-count :
        (it rest : I) (old new : MapState T) (items : List T) (refusal : Option (InsertRefusal T C))
        → IsValid old.store
        → InsertsUntil gives alike grown conflicts it old items refusal rest new
        → live_count new.store ≡ live_count old.store + length items
    InsertsUntil-count it rest old new items None valid run = count-along alike grown items old new valid run.in_turn
    InsertsUntil-count it rest old new items (Some refusal) valid (item, before, run, refused) =
        let count = count-along alike grown items old before valid run.in_turn in
        let same = ap live_count (store_of_refused before new item refusal refused) in
        omega (arith, count, same)

    -- all items that there were stay
    InsertsUntil-stays :
        (it rest : I) (old new : MapState T) (items : List T) (refusal : Option (InsertRefusal T C))
        → IsValid old.store
        → InsertsUntil gives alike grown conflicts it old items refusal rest new
        → (ix : ℕ) (x : T)
        → get old.store ix ≡ Some x
        → get new.store ix ≡ Some x
    InsertsUntil-stays it rest old new items None valid run = stays-along alike grown items old new valid run.in_turn
    InsertsUntil-stays it rest old new items (Some refusal) valid (item, before, run, refused) = λ ix x live.
        subst (λ s. get s ix ≡ Some x) (sym (store_of_refused before new item refusal refused))
        (stays-along alike grown items old before valid run.in_turn ix x live)

    -- the same beside a map with the same store as the one before
    pub InsertsUntil-from :
        (first : MapState T) (it rest : I) (old new : MapState T) (items : List T)
        (refusal : Option (InsertRefusal T C))
        → old.store ≡ first.store
        → IsValid first.store
        → InsertsUntil gives alike grown conflicts it old items refusal rest new
        → (live_count new.store ≡ live_count first.store + length items)
        × ((ix : ℕ) (x : T) → get first.store ix ≡ Some x → get new.store ix ≡ Some x)
    InsertsUntil-from first it rest old new items refusal same first_valid run =
        let valid = subst IsValid (sym same) first_valid in
        let count = InsertsUntil-count it rest old new items refusal valid run in (
          omega (arith, count, ap live_count same),
          λ ix x live.
              InsertsUntil-stays it rest old new items refusal valid run ix x
              (subst (λ s. get s ix ≡ Some x) (sym same) live),
        )

-- a map of the items that an iterator has left
module _
    {I T C : Type 0} (gives : I → Option T → I → Type 0) (rest : I → List T)
    (first : (s t : I) (x : T) → gives s (Some x) t → rest s ≡ x ∷ rest t)
    (last : (s t : I) → gives s None t → rest s ≡ [])
    (alike : T → T → Bool) (grown : ℕ → ℕ) (conflicts : Store T → T → C → Type 0)
  where
    gave_all : (xs : List T) (s u : I) → YieldsThen gives s xs None u → rest s ≡ xs
    gave_all [] s u (t, same, none) = ap rest same ∙ last t u none
    gave_all (x ∷ xs) s u (t, (j, step, more), none) =
        first s j x step ∙ ap (λ l. x ∷ l) (gave_all xs j u (t, more, none))

    gave_until : (xs : List T) (x : T) (s u : I) → YieldsThen gives s xs (Some x) u → rest s ≡ xs ++ x ∷ rest u
    gave_until [] x s u (t, same, step) = ap rest same ∙ first t u x step
    gave_until (y ∷ ys) x s u (t, (j, step, more), next) =
        first s j y step ∙ ap (λ l. y ∷ l) (gave_until ys x j u (t, more, next))

    module _
        (items : List T) (it u : I) (are : rest it ≡ items) (old new : MapState T) (none : old.store ≡ empty)
        (taken : List T)
      where
        pub made_all :
            InsertsUntil gives alike grown conflicts it old taken None u new
            → (new.store ≡ inserted_all empty items) × (live_count new.store ≡ length items)
        made_all did =
            let same : taken ≡ items = sym (gave_all taken it u did.given) ∙ are in
            let valid = subst IsValid (sym none) (IsValid-empty slot_limit (omega arith)) in
            let count = count-along alike grown taken old new valid did.in_turn in (
              did.stored ∙ ap (λ s. inserted_all s taken) none ∙ ap (inserted_all empty) same,
              omega (arith, count, ap live_count none, ap length same),
            )

        -- where memory was reserved for all of them in an empty map
        pub made_with :
            {most : ℕ → ℕ} {count : ℕ} (start : MapState T) (answer : Result (Unit {0}) AllocError)
            → start ≡ empty_map slot_limit
            → count ≡ length items
            → ReservesItems most count start answer old
            → InsertsUntil gives alike grown conflicts it old taken None u new
            → MakesOf alike grown most items new
        made_with {most} {count} start answer none all reserves did =
            let same : taken ≡ items = sym (gave_all taken it u did.given) ∙ are in
            let for_all = subst (λ n. ReservesItems most n start answer old) all reserves in
            record {
              roomy = old;
              reserved = (answer, subst (λ m. ReservesItems most (length items) m answer old) none for_all);
              in_turn = subst (λ l. FoldsTo (InsertsOne alike grown) old l new) same did.in_turn;
            }

        pub made_refused :
            (refusal : InsertRefusal T C)
            → InsertsUntil gives alike grown conflicts it old taken (Some refusal) u new
            → RefusesOneOf alike grown conflicts items refusal
        made_refused refusal (item, map, did, refused) = record {
          before = taken;
          item = item;
          after = rest u;
          listed = sym are ∙ gave_until taken item it u did.given;
          map = map;
          holds = did.stored ∙ ap (λ s. inserted_all s taken) none;
          left = new;
          refused = refused;
        }
