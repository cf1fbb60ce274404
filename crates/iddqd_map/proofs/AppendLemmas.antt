-- What moving the items of one map into another leaves in both.
use Rattle.std.proofs.Common.{◌≡◌, ◌≢◌, ◌∙◌, ◌⊎◌, inl, inr, ◌+◌, ◌-◌, ◌<◌, ◌≤◌, ℕ, suc, Bool, true, false, List, [], ◌∷◌, ◌++◌, length, map, Option, Some, None, is_some, refl, sym, ap, subst, arith}
use Rattle.std.specs.Fn.{Mut}
use Rattle.std.specs.List.{Contains, FoldsTo}
use Rattle.std.specs.Prelude.{Result, Ok, Err, IfErr, IsOk}
use Rattle.std.proofs.lemmas.Bool.{cases_order}
use Rattle.std.proofs.lemmas.Fn.{FoldsTo-push}
use Rattle.std.proofs.lemmas.List.{length-append, length-set, length_push, map-append}
use Rattle.std.proofs.lemmas.List.Elements.{Contains-append_cases}
use Rattle.iddqd.specs.declared.item_set.GrowError.{GrowError}
use Rattle.iddqd.specs.declared.item_set.GrowError.TheVariants.{Full, Memory}
use Rattle.iddqd.specs.Store.{Store, IsFull, IsValid, get, live_count, next_index, removed, slot_count}
use Rattle.iddqd.proofs.LiveCountLemmas.{live_count-removed}
use Rattle.iddqd.proofs.LiveLemmas.{get-inserted_at, get-removed_at, get-removed_other}
use Rattle.iddqd.proofs.StoreLemmas.{IsValid-removed, contains_cases, contains_none, live_within}
use Rattle.iddqd_by_hash.proofs.RetainLemmas.{AsksInTurn-everywhere}
use Rattle.iddqd_keys.specs.Removals.{IsIncreasing}
use Rattle.iddqd_keys.specs.Scan.{HasNoHit, IsHit}
use Rattle.iddqd_map.specs.Append.{Appends, AppendsItem, CanReport, GivesMove, IsPrevented, MayReport, RefusesFor, ReportsIfMoved, ReportsMoves, TakesMove, has_alike, moved_count, moved_slot, moved_slots}
use Rattle.iddqd_map.specs.Calls.{InsertsAt}
use Rattle.iddqd_map.specs.Map.{MapState, room}
use Rattle.iddqd_map.specs.declared.map.inserts.NotReady.{NotReady}
use Rattle.iddqd_map.specs.declared.map.inserts.NotReady.TheVariants.{Conflict}
use Rattle.iddqd_map.specs.declared.refusal.StoppedAppend.{StoppedAppend}
use Rattle.iddqd_map.proofs.BulkLemmas.{InsertsOne, IsValid-one, count-along, stays-along}
use Rattle.iddqd_map.proofs.EqualityLemmas.{none_among, some_among}
use Rattle.iddqd_map.proofs.OverwriteLemmas.{IsIncreasing-push, contains_push, push_adds, push_keeps}
use Rattle.iddqd_map.proofs.RoomLemmas.{full-never, inserted-room, memory-never}

-- the closure may go on after it was called
pub CanReport-after :
    {F : Type 0} (g : Mut F (ℕ × (ℕ × Unit {0})) (Unit {0})) (f : F) (ix : ℕ) (to : Option ℕ) (after : F)
    → CanReport g f
    → ReportsIfMoved (GivesMove g) ix to f after
    → CanReport g after
CanReport-after g f ix None after can same moves = subst (CanReport g) (sym same) can moves
CanReport-after g f ix (Some at) after can gives moves = (can ((ix, at) ∷ moves)).1 true after gives

pub CanReport-may : {F : Type 0} (g : Mut F (ℕ × (ℕ × Unit {0})) (Unit {0})) (f : F) → MayReport g f → CanReport g f
CanReport-may g f may =
    may (λ takes moves.
    AsksInTurn-everywhere (TakesMove g) (λ p x (b : Bool) q. GivesMove g p x q) f moves takes)

-- one slot
module _
    {T : Type 0} (alike : T → T → Bool) (grown : ℕ → ℕ) (ix : ℕ) (item : T)
    (into from new_into new_from : MapState T) (live : get from.store ix ≡ Some item)
  where
    pub AppendsItem-moved :
        (at : ℕ)
        → InsertsAt alike grown into item at new_into × (new_from ≡ record from { store = removed from.store ix })
        → AppendsItem alike grown ix (get from.store ix) into from (Ok (Some at)) new_into new_from
    AppendsItem-moved at did = rw live did

    pub AppendsItem-kept :
        {C : Type 0} (conflicts : Store T → T → C → Type 0)
        → ((at : C) → conflicts into.store item at → (j : ℕ) × IsHit into.store (alike item) j)
        → (refusal : NotReady C) (at : C)
        → refusal ≡ Conflict at
        → IsPrevented alike grown conflicts into item new_into refusal
        → new_from ≡ from
        → AppendsItem alike grown ix (get from.store ix) into from (Ok None) new_into new_from
    AppendsItem-kept conflicts hits refusal at is prevented stays =
        let (reported, unchanged) = rw is at prevented in
        rw live (hits at reported, unchanged, stays)

module _ {T : Type 0} (alike : T → T → Bool) where
  -- whether an item shares a key, as a value of the test
  has_alike-false : (s : Store T) (item : T) → HasNoHit s (alike item) → has_alike alike s item ≡ false
  has_alike-false s item none =
      none_among (alike item) s.items (λ ix z live. unlike ix z live (alike item z) refl)
    where
      unlike : (ix : ℕ) (z : T) → get s ix ≡ Some z → (b : Bool) → alike item z ≡ b → b ≡ false
      unlike ix z live true is = absurd (none ix (z, live, is))
      unlike ix z live false is = refl

  has_alike-true : (s : Store T) (item : T) (ix : ℕ) → IsHit s (alike item) ix → has_alike alike s item ≡ true
  has_alike-true s item ix (z, live, passes) = some_among (alike item) s.items ix z live passes

-- all slots
module _ {T : Type 0} (alike : T → T → Bool) (grown : ℕ → ℕ) where
  -- the items of the slots before p were moved, unless they share a key
  pub record Appending (into from now_into now_from : MapState T) (p : ℕ) : Type 0 where
    pub items : List T
    pub in_turn : FoldsTo (InsertsOne alike grown) into items now_into
    pub stores : (now_into.store, now_from.store) ≡ moved_slots alike p into.store from.store
    pub memory : now_from.memory ≡ from.memory
    pub slots : slot_count now_from.store ≡ slot_count from.store
    pub valid : IsValid now_into.store
    pub valid_from : IsValid now_from.store
    pub left : live_count now_from.store + length items ≡ live_count from.store
    pub roomy : live_count from.store ≤ room into → live_count now_from.store ≤ room now_into
    pub rest : (j : ℕ) → p ≤ j → get now_from.store j ≡ get from.store j
    pub stay : (ix : ℕ) (x : T) → get now_from.store ix ≡ Some x → get from.store ix ≡ Some x
    pub kept : (ix : ℕ) (x : T) → get from.store ix ≡ Some x
        → (get now_from.store ix ≡ Some x) ⊎ ((at : ℕ) × (get now_into.store at ≡ Some x))
    pub conflicts : (ix : ℕ) (x : T) → ix < p → get now_from.store ix ≡ Some x
        → (at : ℕ) × IsHit now_into.store (alike x) at

  pub Appending-first :
      (into from : MapState T)
      → IsValid into.store
      → IsValid from.store
      → Appending into from into from 0
  Appending-first into from valid valid_from = record {
    items = [];
    in_turn = refl;
    stores = refl;
    memory = refl;
    slots = refl;
    valid = valid;
    valid_from = valid_from;
    left = omega arith;
    roomy = λ fits. fits;
    rest = λ j behind. refl;
    stay = λ ix x live. live;
    kept = λ ix x live. inl live;
    conflicts = λ ix x before live. absurd (omega (arith, before));
  }

  -- an item that is there after the removal of another was there before, under another index
  left_other :
      (s : Store T) (p ix : ℕ) (x y : T)
      → get s p ≡ Some x
      → get (removed s p) ix ≡ Some y
      → (ix ≢ p) × (get s ix ≡ Some y)
  left_other s p ix x y here there =
      let apart : ix ≢ p = λ same. (let gone = get-removed_at s p x here in
      let none : get (removed s p) ix ≡ None = subst (λ k. get (removed s p) k ≡ None) (sym same) gone in
      absurd (cc)) in
      (apart, sym (get-removed_other s p ix apart) ∙ there)

  module _
      (into from now_into now_from : MapState T) (p : ℕ) (w : Appending into from now_into now_from p)
    where
      step-stores :
          (slot : Option T)
          → get now_from.store p ≡ slot
          → (s t : Store T)
          → (s, t) ≡ moved_slot alike p slot now_into.store now_from.store
          → (s, t) ≡ moved_slots alike (suc p) into.store from.store
      step-stores slot is s t made =
          made ∙ ap (λ o. moved_slot alike p o now_into.store now_from.store) (sym is ∙ w.rest p (omega arith))
          ∙ ap (λ (q : Store T × Store T). moved_slot alike p (get from.store p) q.0 q.1) w.stores

      -- a slot whose item, if there is one, stays
      stays_slot :
          (slot : Option T)
          → get now_from.store p ≡ slot
          → (now_into.store, now_from.store) ≡ moved_slot alike p slot now_into.store now_from.store
          → ((x : T) → slot ≡ Some x → (at : ℕ) × IsHit now_into.store (alike x) at)
          → Appending into from now_into now_from (suc p)
      stays_slot slot is same hits = record {
        items = w.items;
        in_turn = w.in_turn;
        stores = step-stores slot is now_into.store now_from.store same;
        memory = w.memory;
        slots = w.slots;
        valid = w.valid;
        valid_from = w.valid_from;
        left = w.left;
        roomy = w.roomy;
        rest = λ j behind. w.rest j (omega (arith, behind));
        stay = w.stay;
        kept = w.kept;
        conflicts = λ ix x before live. elim (cases_order ix p) [
          | inl here ↦ hits x (sym is ∙ ap (get now_from.store) (sym here) ∙ live)
          | inr (inl less) ↦ w.conflicts ix x less live
          | inr (inr more) ↦ absurd (omega (arith, before, more))
        ];
      }

      -- the item of a slot is moved
      module _
          (x : T) (at : ℕ) (new_into new_from : MapState T) (live : get now_from.store p ≡ Some x)
          (did : InsertsAt alike grown now_into x at new_into)
          (gone : new_from ≡ record now_from { store = removed now_from.store p })
        where
          left_store : new_from.store ≡ removed now_from.store p
          left_store = ap (λ (m : MapState T). m.store) gone

          fewer : live_count now_from.store ≡ live_count new_from.store + 1
          fewer = live_count-removed now_from.store p x w.valid_from live ∙ ap (λ s. live_count s + 1) (sym left_store)

          stays_into : (ix : ℕ) (y : T) → get now_into.store ix ≡ Some y → get new_into.store ix ≡ Some y
          stays_into = stays-along alike grown (x ∷ []) now_into new_into w.valid (new_into, (at, did), refl)

          left_from : (ix : ℕ) (y : T) → get new_from.store ix ≡ Some y → (ix ≢ p) × (get now_from.store ix ≡ Some y)
          left_from ix y there =
              left_other now_from.store p ix x y live (subst (λ s. get s ix ≡ Some y) left_store there)

          kept_slot :
              (ix : ℕ) (y : T)
              → get now_from.store ix ≡ Some y
              → (get new_from.store ix ≡ Some y) ⊎ ((j : ℕ) × (get new_into.store j ≡ Some y))
          kept_slot ix y there = elim (cases_order ix p) [
            | inl here ↦
                let same : x ≡ y =
                (let one : Some x ≡ Some y = sym live ∙ ap (get now_from.store) (sym here) ∙ there in cc) in
                let stored = get-inserted_at now_into.store x w.valid in
                inr (next_index now_into.store, ap (λ s. get s (next_index now_into.store)) did.stored ∙ stored ∙ ap Some same)
            | inr other ↦
                let apart : ix ≢ p = λ same. elim other [
                  | inl less ↦ omega (arith, same, less)
                  | inr more ↦ omega (arith, same, more)
                ] in
                inl (ap (λ s. get s ix) left_store ∙ get-removed_other now_from.store p ix apart ∙ there)
          ]

          moves_slot : Appending into from new_into new_from (suc p)
          moves_slot = record {
            items = w.items ++ x ∷ [];
            in_turn = FoldsTo-push (InsertsOne alike grown) into w.items now_into x new_into w.in_turn (at, did);
            stores = step-stores (Some x) live new_into.store new_from.store
                (rw (has_alike-false alike now_into.store x did.no_conflict, did.stored, left_store) refl);
            memory = ap (λ (m : MapState T). m.memory) gone ∙ w.memory;
            slots = ap slot_count left_store ∙ length-set now_from.store.items p None ∙ w.slots;
            valid = IsValid-one alike grown now_into new_into x w.valid (at, did);
            valid_from = subst IsValid (sym left_store) (IsValid-removed now_from.store p x w.valid_from live);
            left = omega (arith, fewer, w.left, length-append w.items (x ∷ []));
            roomy = λ fits.
                let some = w.roomy fits in
                let one = inserted-room alike grown now_into new_into x w.valid at did (omega (arith, some, fewer)) in
                omega (arith, some, fewer, one);
            rest = λ j behind.
                ap (λ s. get s j) left_store ∙ get-removed_other now_from.store p j (λ same. omega (arith, same, behind))
                ∙ w.rest j (omega (arith, behind));
            stay = λ ix y there. w.stay ix y (left_from ix y there).1;
            kept = λ ix y there. elim (w.kept ix y there) [
              | inl stays ↦ kept_slot ix y stays
              | inr (j, moved) ↦ inr (j, stays_into j y moved)
            ];
            conflicts = λ ix y before there.
                let (apart, was) = left_from ix y there in
                let less : ix < p = elim (cases_order ix p) [
                  | inl same ↦ absurd (apart same)
                  | inr (inl less) ↦ less
                  | inr (inr more) ↦ absurd (omega (arith, before, more))
                ] in
                let (j, hit) = w.conflicts ix y less was in
                let (z, there, passes) = hit in
                (j, (z, stays_into j z there, passes));
          }

      -- what the move of the item in a slot leaves, if it isn't refused
      step-by :
          (slot : Option T) (new_into new_from : MapState T) (to : Option ℕ)
          → get now_from.store p ≡ slot
          → AppendsItem alike grown p slot now_into now_from (Ok to) new_into new_from
          → Appending into from new_into new_from (suc p)
      step-by None new_into new_from None none (same, same_from) =
          rw (same, same_from) (stays_slot None none refl (λ x is. absurd (cc)))
      step-by None new_into new_from (Some at) none did = absurd did
      step-by (Some x) new_into new_from (Some at) live (did, gone) = moves_slot x at new_into new_from live did gone
      step-by (Some x) new_into new_from None live ((at, hit), same, same_from) =
          rw (same, same_from) (stays_slot (Some x) live (rw (has_alike-true alike now_into.store x at hit) refl)
          (λ y is. let one : x ≡ y = cc in subst (λ z. (j : ℕ) × IsHit now_into.store (alike z) j) one (at, hit)))

      pub Appending-step :
          (new_into new_from : MapState T) (ix : ℕ) (to : Option ℕ)
          → AppendsItem alike grown ix (get now_from.store ix) now_into now_from (Ok to) new_into new_from
          → ix ≡ p
          → Appending into from new_into new_from (p + 1)
      Appending-step new_into new_from ix to did here =
          let next : suc p ≡ p + 1 = omega arith in
          let moved =
          subst (λ k. AppendsItem alike grown k (get now_from.store k) now_into now_from (Ok to) new_into new_from) here did in
          subst (Appending into from new_into new_from) next (step-by (get now_from.store p) new_into new_from to refl moved)

  -- ---- the moves that were reported

  module _ {F : Type 0} (give : F → ℕ × ℕ → F → Type 0) (first : F) (into from : MapState T) where
    -- the moves of the slots before p were reported
    pub record Reporting (now_into now_from : MapState T) (p : ℕ) (state : F) : Type 0 where
      pub moves : List (ℕ × ℕ)
      pub reported : FoldsTo give first moves state
      pub rising : IsIncreasing (map (λ move. move.0) moves)
      pub below : (ix : ℕ) → Contains (map (λ move. move.0) moves) ix → ix < p
      pub moved : (move : ℕ × ℕ) → Contains moves move
          → (item : T) × (get from.store move.0 ≡ Some item) × (get now_into.store move.1 ≡ Some item)
      pub gone : (ix : ℕ) → Contains (map (λ move. move.0) moves) ix → get now_from.store ix ≡ None
      pub others : (ix : ℕ) → (Contains (map (λ move. move.0) moves) ix → ⊥)
          → get now_from.store ix ≡ get from.store ix
      pub left : live_count now_from.store + length moves ≡ live_count from.store

    pub Reporting-first : Reporting into from 0 first
    Reporting-first = record {
      moves = [];
      reported = refl;
      rising = tt;
      below = λ ix here. absurd (contains_none ix here);
      moved = λ move here. absurd (contains_none move here);
      gone = λ ix here. absurd (contains_none ix here);
      others = λ ix other. refl;
      left = omega arith;
    }

    module _
        (now_into now_from : MapState T) (p : ℕ) (state : F) (w : Appending into from now_into now_from p)
        (r : Reporting now_into now_from p state) (new_into new_from : MapState T)
      where
        stays_reported : new_into ≡ now_into → new_from ≡ now_from → Reporting new_into new_from (p + 1) state
        stays_reported same same_from = rw (same, same_from) (record {
          moves = r.moves;
          reported = r.reported;
          rising = r.rising;
          below = λ ix here. let less = r.below ix here in omega (arith, less);
          moved = r.moved;
          gone = r.gone;
          others = r.others;
          left = r.left;
        })

        module _
            (x : T) (at : ℕ) (after : F) (live : get now_from.store p ≡ Some x)
            (did : InsertsAt alike grown now_into x at new_into)
            (gone : new_from ≡ record now_from { store = removed now_from.store p }) (gives : give state (p, at) after)
          where
            left_now : new_from.store ≡ removed now_from.store p
            left_now = ap (λ (m : MapState T). m.store) gone

            one_less : live_count now_from.store ≡ live_count new_from.store + 1
            one_less = live_count-removed now_from.store p x w.valid_from live ∙ ap (λ s. live_count s + 1) (sym left_now)

            moved_here : get new_into.store at ≡ Some x
            moved_here =
                ap (get new_into.store) did.index
                ∙ ap (λ s. get s (next_index now_into.store)) did.stored ∙ get-inserted_at now_into.store x w.valid

            firsts : map (λ (move : ℕ × ℕ). move.0) (r.moves ++ (p, at) ∷ []) ≡ map (λ move. move.0) r.moves ++ p ∷ []
            firsts = map-append (λ (move : ℕ × ℕ). move.0) r.moves ((p, at) ∷ [])

            first_cases :
                (ix : ℕ)
                → Contains (map (λ (move : ℕ × ℕ). move.0) (r.moves ++ (p, at) ∷ [])) ix
                → Contains (map (λ (move : ℕ × ℕ). move.0) r.moves) ix ⊎ (p ≡ ix)
            first_cases ix here =
                contains_push (map (λ move. move.0) r.moves) p ix (subst (λ l. Contains l ix) firsts here)

            moves_reported : Reporting new_into new_from (p + 1) after
            moves_reported = record {
              moves = r.moves ++ (p, at) ∷ [];
              reported = FoldsTo-push give first r.moves state (p, at) after r.reported gives;
              rising = subst IsIncreasing (sym firsts) (IsIncreasing-push (map (λ move. move.0) r.moves) p r.rising r.below);
              below = λ ix here. elim (first_cases ix here) [
                | inl before ↦ let less = r.below ix before in omega (arith, less)
                | inr same ↦ omega (arith, same)
              ];
              moved = λ move here. elim (Contains-append_cases r.moves ((p, at) ∷ []) move here) [
                | inl before ↦
                    let (item, was, there) = r.moved move before in (
                      item,
                      was,
                      stays-along alike grown (x ∷ []) now_into new_into w.valid (new_into, (at, did), refl)
                          move.1 item there,
                    )
                | inr last ↦ elim (contains_cases (p, at) move [] last) [
                  | inl same ↦
                      subst (λ (m : ℕ × ℕ). (item : T) × (get from.store m.0 ≡ Some item) × (get new_into.store m.1 ≡ Some item))
                      same (x, sym (w.rest p (omega arith)) ∙ live, moved_here)
                  | inr never ↦ absurd (contains_none move never)
                ]
              ];
              gone = λ ix here. elim (first_cases ix here) [
                | inl before ↦
                    let less = r.below ix before in
                    ap (λ s. get s ix) left_now ∙ get-removed_other now_from.store p ix (λ same. omega (arith, same, less))
                    ∙ r.gone ix before
                | inr same ↦
                    subst (λ k. get new_from.store k ≡ None) same
                    (ap (λ s. get s p) left_now ∙ get-removed_at now_from.store p x live)
              ];
              others = λ ix other.
                  let apart : ix ≢ p = λ same. other (subst (λ l. Contains l ix) (sym firsts)
                  (subst (Contains (map (λ move. move.0) r.moves ++ p ∷ [])) (sym same)
                  (push_adds (map (λ move. move.0) r.moves) p))) in
                  ap (λ s. get s ix) left_now ∙ get-removed_other now_from.store p ix apart
                  ∙ r.others ix (λ here. other (subst (λ l. Contains l ix) (sym firsts)
                  (push_keeps (map (λ move. move.0) r.moves) p ix here)));
              left =
                  let long = length_push r.moves (p, at) in
                  omega (arith, one_less, r.left, long);
            }

        kept_by :
            (slot : Option T)
            → AppendsItem alike grown p slot now_into now_from (Ok None) new_into new_from
            → Reporting new_into new_from (p + 1) state
        kept_by None (same, same_from) = stays_reported same same_from
        kept_by (Some x) (hit, same, same_from) = stays_reported same same_from

        moved_by :
            (slot : Option T) (at : ℕ) (after : F)
            → get now_from.store p ≡ slot
            → AppendsItem alike grown p slot now_into now_from (Ok (Some at)) new_into new_from
            → give state (p, at) after
            → Reporting new_into new_from (p + 1) after
        moved_by None at after none did gives = absurd did
        moved_by (Some x) at after live (did, gone) gives = moves_reported x at after live did gone gives

        Reporting-kept :
            (ix : ℕ)
            → AppendsItem alike grown ix (get now_from.store ix) now_into now_from (Ok None) new_into new_from
            → ix ≡ p
            → Reporting new_into new_from (p + 1) state
        Reporting-kept ix did here =
            kept_by (get now_from.store p)
            (subst (λ k. AppendsItem alike grown k (get now_from.store k) now_into now_from (Ok None) new_into new_from) here did)

        Reporting-moved :
            (ix at : ℕ) (after : F)
            → AppendsItem alike grown ix (get now_from.store ix) now_into now_from (Ok (Some at)) new_into new_from
            → give state (ix, at) after
            → ix ≡ p
            → Reporting new_into new_from (p + 1) after
        Reporting-moved ix at after did gives here =
            moved_by (get now_from.store p) at after refl
            (subst (λ k. AppendsItem alike grown k (get now_from.store k) now_into now_from (Ok (Some at)) new_into new_from) here
            did)
            (subst (λ k. give state (k, at) after) here gives)

        pub Reporting-step :
            (ix : ℕ) (to : Option ℕ) (after : F)
            → AppendsItem alike grown ix (get now_from.store ix) now_into now_from (Ok to) new_into new_from
            → ReportsIfMoved give ix to state after
            → ix ≡ p
            → Reporting new_into new_from (p + 1) after
        Reporting-step ix None after did same here =
            subst (Reporting new_into new_from (p + 1)) (sym same) (Reporting-kept ix did here)
        Reporting-step ix (Some at) after did gives here = Reporting-moved ix at after did gives here

    -- what was reported in all, beside a map with the items that were moved and no others
    pub ReportsMoves-all :
        (now_into now_from : MapState T) (p : ℕ) (state : F) (new_into new_from : MapState T) (count : ℕ)
        → Reporting now_into now_from p state
        → new_into.store ≡ now_into.store
        → new_from.store ≡ now_from.store
        → live_count new_from.store + count ≡ live_count from.store
        → ReportsMoves give first state from.store new_into.store new_from.store count
    ReportsMoves-all now_into now_from p state new_into new_from count r same same_from left =
        let fewer = ap live_count same_from in
        record {
          moves = r.moves;
          counted = omega (arith, left, r.left, fewer);
          reported = r.reported;
          rising = r.rising;
          moved = λ move here.
              let (item, was, there) = r.moved move here in (item, was, ap (λ s. get s move.1) same ∙ there);
          gone = λ ix here. ap (λ s. get s ix) same_from ∙ r.gone ix here;
          others = λ ix other. ap (λ s. get s ix) same_from ∙ r.others ix other;
        }

  -- what `append` ensures beside that
  pub record AppendLeaves
      (into from : MapState T) (answer : Result ℕ StoppedAppend) (new_into new_from : MapState T)
      : Type 0 where
    pub appends : Appends alike grown into from answer new_into new_from
    pub count : live_count new_into.store ≡ live_count into.store + moved_count answer
    pub left : live_count new_from.store + moved_count answer ≡ live_count from.store
    pub others : (ix : ℕ) (x : T) → get into.store ix ≡ Some x → get new_into.store ix ≡ Some x
    pub stay : (ix : ℕ) (x : T) → get new_from.store ix ≡ Some x → get from.store ix ≡ Some x
    pub kept : (ix : ℕ) (x : T) → get from.store ix ≡ Some x
        → (get new_from.store ix ≡ Some x) ⊎ ((at : ℕ) × (get new_into.store at ≡ Some x))
    pub conflicts : IsOk answer → (ix : ℕ) (x : T) → get new_from.store ix ≡ Some x
        → (at : ℕ) × IsHit new_into.store (alike x) at
    pub full : IfErr answer (λ stopped. stopped.error ≡ Full → IsFull new_into.store)
    pub not_refused : live_count from.store ≤ room into → IsOk answer

  module _
      (into from now_into now_from : MapState T) (p : ℕ) (valid : IsValid into.store)
      (w : Appending into from now_into now_from p)
    where
      risen : live_count now_into.store ≡ live_count into.store + length w.items
      risen = count-along alike grown w.items into now_into valid w.in_turn

      pub Appending-more : live_count into.store ≤ live_count now_into.store
      Appending-more = omega (arith, risen)

      module _ (before after : ℕ) (was : before ≡ live_count into.store) where
        pub Appending-all :
            after ≡ live_count now_into.store
            → slot_count from.store ≡ p
            → AppendLeaves into from (Ok (after - before)) now_into now_from
        Appending-all is past = record {
          appends = record {
            passed = p;
            items = w.items;
            before = now_into;
            in_turn = w.in_turn;
            counted = omega (arith, was, is, risen);
            stores = w.stores;
            memory = w.memory;
            stops = (sym past ∙ sym w.slots, refl);
          };
          count = omega (arith, was, is, risen);
          left = omega (arith, was, is, risen, w.left);
          others = stays-along alike grown w.items into now_into valid w.in_turn;
          stay = w.stay;
          kept = w.kept;
          conflicts = λ _ ix x there.
              let within = live_within now_from.store.items ix (ap is_some there) in
              w.conflicts ix x (omega (arith, within, past, w.slots)) there;
          full = tt;
          not_refused = λ fits. refl;
        }

        -- it stops at an item that is refused
        module _ (x : T) (new_into new_from : MapState T) (live : get now_from.store p ≡ Some x) where
          refused-store :
              (error : GrowError) → RefusesFor alike grown error now_into x new_into → new_into.store ≡ now_into.store
          refused-store Full refused = ap (λ (m : MapState T). m.store) refused.unchanged
          refused-store Memory refused = refused.store_stays

          refused-full :
              (error : GrowError)
              → RefusesFor alike grown error now_into x new_into
              → error ≡ Full
              → IsFull new_into.store
          refused-full Full refused is = subst (λ (m : MapState T). IsFull m.store) (sym refused.unchanged) refused.full
          refused-full Memory refused is = absurd (cc)

          refused-never :
              (error : GrowError) → RefusesFor alike grown error now_into x new_into → 1 ≤ room now_into → ⊥
          refused-never Full refused = full-never alike grown now_into new_into x w.valid x refused
          refused-never Memory refused = memory-never alike grown now_into new_into x w.valid x refused

          stops_here :
              (error : GrowError)
              → RefusesFor alike grown error now_into x new_into
              → new_from ≡ now_from
              → after ≡ live_count new_into.store
              → AppendLeaves into from (Err (record { moved = after - before; error = error })) new_into now_from
          stops_here error refused same is =
              let store = refused-store error refused in
              let count = ap live_count store in
              record {
                appends = record {
                  passed = p;
                  items = w.items;
                  before = now_into;
                  in_turn = w.in_turn;
                  counted = omega (arith, was, is, risen, count);
                  stores = ap (λ s. (s, now_from.store)) store ∙ w.stores;
                  memory = w.memory;
                  stops = (x, live, refused);
                };
                count = omega (arith, was, is, risen, count);
                left = omega (arith, was, is, risen, w.left, count);
                others = λ ix y there.
                    ap (λ s. get s ix) store ∙ stays-along alike grown w.items into now_into valid w.in_turn ix y there;
                stay = w.stay;
                kept = λ ix y there. elim (w.kept ix y there) [
                  | inl stays ↦ inl stays
                  | inr (at, moved) ↦ inr (at, ap (λ s. get s at) store ∙ moved)
                ];
                conflicts = λ none. absurd (cc);
                full = refused-full error refused;
                not_refused = λ fits.
                    let one = live_count-removed now_from.store p x w.valid_from live in
                    absurd (refused-never error refused (omega (arith, one, w.roomy fits)));
              }

        stops-by :
            (slot : Option T) (error : GrowError) (new_into new_from : MapState T)
            → get now_from.store p ≡ slot
            → AppendsItem alike grown p slot now_into now_from (Err error) new_into new_from
            → after ≡ live_count new_into.store
            → AppendLeaves into from (Err (record { moved = after - before; error = error })) new_into new_from
        stops-by None error new_into new_from none did = absurd did
        stops-by (Some x) error new_into new_from live (refused, same) = λ is.
            rw same (stops_here x new_into new_from live error refused same is)

        pub Appending-stops :
            (new_into new_from : MapState T) (ix : ℕ) (error : GrowError)
            → AppendsItem alike grown ix (get now_from.store ix) now_into now_from (Err error) new_into new_from
            → ix ≡ p
            → after ≡ live_count new_into.store
            → AppendLeaves into from (Err (record { moved = after - before; error = error })) new_into new_from
        Appending-stops new_into new_from ix error did here =
            stops-by (get now_from.store p) error new_into new_from refl
            (subst (λ k. AppendsItem alike grown k (get now_from.store k) now_into now_from (Err error) new_into new_from) here
            did)

        store-by :
            (slot : Option T) (error : GrowError) (new_into new_from : MapState T)
            → get now_from.store p ≡ slot
            → AppendsItem alike grown p slot now_into now_from (Err error) new_into new_from
            → (new_into.store ≡ now_into.store) × (new_from.store ≡ now_from.store)
        store-by None error new_into new_from none did = absurd did
        store-by (Some x) error new_into new_from live (refused, same) = (
          refused-store x new_into new_from live error refused,
          ap (λ (m : MapState T). m.store) same,
        )

        -- a refusal leaves both stores
        pub Appending-stores :
            (new_into new_from : MapState T) (ix : ℕ) (error : GrowError)
            → AppendsItem alike grown ix (get now_from.store ix) now_into now_from (Err error) new_into new_from
            → ix ≡ p
            → (new_into.store ≡ now_into.store) × (new_from.store ≡ now_from.store)
        Appending-stores new_into new_from ix error did here =
            store-by (get now_from.store p) error new_into new_from refl
            (subst (λ k. AppendsItem alike grown k (get now_from.store k) now_into now_from (Err error) new_into new_from) here
            did)
