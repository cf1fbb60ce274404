-- What calls leave that insert many items and hand over those that they displace.
use Rattle.std.proofs.Common.{◌≡◌, ◌∙◌, ◌⊎◌, inl, inr, ◌↔◌, ◌+◌, ◌<◌, ◌≤◌, ℕ, suc, Bool, true, false, cond, List, [], ◌∷◌, ◌++◌, length, map, Option, Some, None, is_some, slice_index_or, refl, sym, ap, subst, arith}
use Rattle.std.specs.Fn.{Mut}
use Rattle.std.specs.Iterator.{Count, IsFinite, MakesProgress, UpTo, Yields, size}
use Rattle.std.specs.List.{Contains, FoldsTo, count_by}
use Rattle.std.proofs.lemmas.Bool.{cases_eq}
use Rattle.std.proofs.lemmas.Fn.{FoldsTo-push}
use Rattle.std.proofs.lemmas.List.{map-append, length-append, length-map, length_push}
use Rattle.std.proofs.lemmas.List.Sums.{sum_by-cons}
use Rattle.std.proofs.lemmas.List.Elements.{Contains-append_cases, Contains-append_left, Contains-append_right}
use Rattle.iddqd.specs.LiveItems.{items_in, live_items}
use Rattle.iddqd.specs.Store.{Store, IsValid, get, inserted, live_count, next_index, removed}
use Rattle.iddqd.proofs.StoreLemmas.{contains_head, contains_tail, contains_cases, contains_none}
use Rattle.iddqd_hash.specs.Asks.{CanAsk}
use Rattle.iddqd_hash.proofs.AskLemmas.{CanAsk-asked, CanAsk-everywhere}
use Rattle.iddqd_keys.specs.KeyWalk.{index_with_item, pairs_at}
use Rattle.iddqd_keys.specs.Removals.{IsIncreasing, padded, removed_all}
use Rattle.iddqd_keys.specs.Scan.{IsLive, IsHit, HasNoHit}
use Rattle.iddqd_keys.proofs.KeyWalkLemmas.{pairs_at-first, pairs_at-last}
use Rattle.iddqd_keys.proofs.RemovalLemmas.{AreLiveInTurn, AreLiveInTurn-rising, IsValid-removed_all}
use Rattle.iddqd_keys.proofs.ScanLemmas.{live_before, live_cases}
use Rattle.iddqd_map.specs.BulkOverwrite.{CanDisplace, DisplacesAt, DisplacesNext, GivesSomewhere, HandsOver, MayDisplace, OverwritesUntil, RefusesItem, TakesAnywhere}
use Rattle.iddqd_map.specs.Calls.{InsertsAt, OverwritesAt}
use Rattle.iddqd_map.specs.KeyIndex.{IsNextReported}
use Rattle.iddqd_map.specs.Map.{MapState, room}
use Rattle.iddqd_map.specs.Overwrite.{GivesReported}
use Rattle.iddqd_map.specs.Sweep.{GivesPair}
use Rattle.iddqd_map.specs.declared.refusal.OverwriteRefusal.{OverwriteRefusal}
use Rattle.iddqd_map.specs.declared.refusal.OverwriteRefusal.TheVariants.{Full, Memory}
use Rattle.iddqd_map.proofs.GroupRetainLemmas.{CanAsk-among}
use Rattle.iddqd_map.proofs.OverwriteLemmas.{HasNoHit-removed_all, IsAhead, IsIncreasing-push, MakesRoom-same, ahead_first, ahead_next, contains_push, get-removed_all, past_next, push_adds, push_keeps, removed_all-push, reported_first}
use Rattle.iddqd_map.proofs.RetainLemmas.{Contains-live}
use Rattle.iddqd_map.proofs.RetainedLemmas.{live_pair, pair_live}
use Rattle.iddqd_map.proofs.RoomLemmas.{overwritten-count, overwritten-room, overwritten-stays, overwritten-valid}

-- ---- the items that share a key are removed one after the other, and handed over

-- Of the indexes that were reported, these are done, and this is the next one. Once one is done, there is room.
pub record Displacing
    {G T : Type 0} (reported : ℕ → Type 0) (old : Store T) (give : G → ℕ × T → G → Type 0) (gone : G) (HasRoom : Type 0)
    (left : Store T) (next : Option ℕ) (state : G)
    : Type 0 where
  pub done : List ℕ
  pub rising : IsIncreasing done
  pub were_reported : (ix : ℕ) → Contains done ix → reported ix
  pub ahead : (ix : ℕ) → reported ix → Contains done ix ⊎ IsAhead next ix
  pub next_reported : (j : ℕ) → next ≡ Some j → reported j × ((ix : ℕ) → Contains done ix → ix < j)
  pub handed : List (ℕ × T)
  pub items : handed ≡ pairs_at old done
  pub given : FoldsTo give gone handed state
  pub left_is : left ≡ removed_all old done
  pub roomy : (ix : ℕ) → Contains done ix → HasRoom

module _
    {G T : Type 0} (reported : ℕ → Type 0) (old : Store T) (give : G → ℕ × T → G → Type 0) (gone : G)
  where
    pub Displacing-none :
        (HasRoom : Type 0) (next : Option ℕ)
        → IsNextReported reported None next
        → Displacing reported old give gone HasRoom old next gone
    Displacing-none HasRoom next first = record {
      done = [];
      rising = tt;
      were_reported = λ ix here. absurd (contains_none ix here);
      ahead = λ ix here. inr (ahead_first reported 0 old next first ix here);
      next_reported = λ j is. (reported_first reported 0 old next first j is, λ ix here. absurd (contains_none ix here));
      handed = [];
      items = refl;
      given = refl;
      left_is = refl;
      roomy = λ ix here. absurd (contains_none ix here);
    }

    module _
        (HasRoom : Type 0) (left : Store T) (next : Option ℕ) (state : G)
        (w : Displacing reported old give gone HasRoom left next state)
      where
        -- the next one is as it was, and there
        pub displaced_was : (j : ℕ) → next ≡ Some j → get left j ≡ get old j
        displaced_was j is =
            ap (λ s. get s j) w.left_is
            ∙ get-removed_all old w.done j (λ here. let less = (w.next_reported j is).1 j here in omega (arith, less))

        pub displaced_live : (j : ℕ) → next ≡ Some j → ((ix : ℕ) → reported ix → IsLive old ix) → IsLive left j
        displaced_live j is live = rw (displaced_was j is) (live j (w.next_reported j is).0)

        pub Displacing-next :
            (j : ℕ) (item : T) (after : G) (left_now : Store T) (follows : Option ℕ) (HasRoomNow : Type 0)
            → next ≡ Some j
            → IsNextReported reported (Some j) follows
            → get left j ≡ Some item
            → give state (j, item) after
            → left_now ≡ removed left j
            → HasRoomNow
            → Displacing reported old give gone HasRoomNow left_now follows after
        Displacing-next j item after left_now follows HasRoomNow is following live gives less roomy =
            let (own, below) = w.next_reported j is in
            let was : get old j ≡ Some item = sym (displaced_was j is) ∙ live in
            record {
              done = w.done ++ j ∷ [];
              rising = IsIncreasing-push w.done j w.rising below;
              were_reported = λ ix here. elim (contains_push w.done j ix here) [
                | inl inside ↦ w.were_reported ix inside
                | inr same ↦ subst reported same own
              ];
              ahead = λ ix here. elim (subst (λ n. Contains w.done ix ⊎ IsAhead n ix) is (w.ahead ix here)) [
                | inl inside ↦ inl (push_keeps w.done j ix inside)
                | inr after_it ↦ elim (cases_eq j ix) [
                  | inl same ↦ inl (subst (λ k. Contains (w.done ++ j ∷ []) k) same (push_adds w.done j))
                  | inr other ↦ inr (ahead_next reported 0 old j follows following ix here (omega (arith, after_it, other)))
                ]
              ];
              next_reported = λ k at.
                  let (here, past) = past_next reported 0 old j follows following k at in (
                    here,
                    λ ix inside. elim (contains_push w.done j ix inside) [
                      | inl before ↦ let less_than = below ix before in omega (arith, less_than, past)
                      | inr same ↦ omega (arith, same, past)
                    ],
                  );
              handed = w.handed ++ (j, item) ∷ [];
              items =
                  ap (λ l. l ++ (j, item) ∷ []) w.items
                  ∙ sym (pairs_at-last old (w.done ++ j ∷ []) w.done j item refl was);
              given = FoldsTo-push give gone w.handed state (j, item) after w.given gives;
              left_is = less ∙ ap (λ s. removed s j) w.left_is ∙ sym (removed_all-push old w.done j);
              roomy = λ ix here. roomy;
            }

        -- where there is no next one, all were handed over
        pub GivesReported-all : next ≡ None → GivesReported reported give old gone left state
        GivesReported-all none = record {
          indexes = w.done;
          each = λ ix. (
            w.were_reported ix,
            λ here. elim (subst (λ n. Contains w.done ix ⊎ IsAhead n ix) none (w.ahead ix here)) [
              | inl inside ↦ inside
              | inr never ↦ absurd never
            ],
          );
          rising = w.rising;
          displaced = w.handed;
          items = w.items;
          given = w.given;
          left = w.left_is;
        }

        -- and where one was reported there is room
        pub displaced_room : next ≡ None → (ix : ℕ) × reported ix → HasRoom
        displaced_room none (ix, here) =
            elim (subst (λ n. Contains w.done ix ⊎ IsAhead n ix) none (w.ahead ix here)) [
              | inl inside ↦ w.roomy ix inside
              | inr never ↦ absurd never
            ]

-- ---- an insert that displaces

padded-whole : {T : Type 0} (xs : List (Option T)) → xs ≡ padded (length xs) xs
padded-whole [] = refl
padded-whole (x ∷ xs) = ap (λ l. x ∷ l) (padded-whole xs)

count-somes : {T : Type 0} (xs : List T) → count_by is_some (map Some xs) ≡ length xs
count-somes [] = refl
count-somes {T} (x ∷ xs) =
    let more = count-somes xs in
    sum_by-cons (λ (o : Option T). cond (is_some o) 1 0) (Some x) (map Some xs) ∙ omega (arith, more)

-- at live indexes each pair is there
somes_at :
    {T : Type 0} (s : Store T) (indexes : List ℕ)
    → ((ix : ℕ) → Contains indexes ix → (item : T) × (get s ix ≡ Some item))
    → map Some (pairs_at s indexes) ≡ map (index_with_item s) indexes
somes_at s [] live = refl
somes_at s (ix ∷ rest) live =
    let (item, here) = live ix (contains_head ix rest) in
    let first : index_with_item s ix ≡ Some (ix, item) = rw here refl in
    ap (map Some) (pairs_at-first s (ix ∷ rest) rest ix item refl here)
    ∙ ap (λ l. Some (ix, item) ∷ l) (somes_at s rest (λ j there. live j (contains_tail ix j rest there)))
    ∙ ap (λ o. o ∷ map (index_with_item s) rest) (sym first)

module _ {T : Type 0} (alike : T → T → Bool) (grown : ℕ → ℕ) where
  -- an insert that displaces is an overwrite with as many places
  pub as_overwrite :
      (old new : MapState T) (item : T) (ix : ℕ) (displaced : List (ℕ × T))
      → DisplacesAt alike grown old item ix displaced new
      → OverwritesAt alike grown (length displaced) old item ix (map Some displaced) new
  as_overwrite old new item ix displaced did =
      let long : length (map Some displaced) ≡ length displaced = length-map displaced Some in
      let indexes = length-map did.conflicts (index_with_item old.store) in
      let are : map Some displaced ≡ map (index_with_item old.store) did.conflicts =
      ap (map Some) did.items
      ∙ somes_at old.store did.conflicts (λ j here.
      (let (x, live, shares) = (did.are_conflicts.each j).0 here in (x, live))) in
      let same = ap length are in
      record {
        conflicts = did.conflicts;
        are_conflicts = did.are_conflicts;
        at_most = omega (arith, long, indexes, same);
        not_full = did.not_full;
        items =
            padded-whole (map Some displaced) ∙ ap (λ n. padded n (map Some displaced)) long
            ∙ ap (padded (length displaced)) are;
        index = did.index;
        stored = did.stored;
        memory = did.memory;
        same_memory = did.same_memory;
      }

  -- where no item shares a key none is displaced
  pub DisplacesAt-none :
      (old new : MapState T) (item : T) (ix : ℕ)
      → InsertsAt alike grown old item ix new
      → DisplacesAt alike grown old item ix [] new
  DisplacesAt-none old new item ix did = record {
    conflicts = [];
    are_conflicts = record { each = λ j. (λ here. absurd (contains_none j here), λ hit. absurd (did.no_conflict j hit)); rising = tt };
    not_full = λ _. did.not_full;
    items = refl;
    index = did.index;
    stored = did.stored;
    memory = did.memory;
    same_memory = λ some. absurd (some did.no_conflict);
  }

  -- and where some do, they were reported
  module _
      {G : Type 0} (give : G → ℕ × T → G → Type 0) (reported : ℕ → Type 0) (s : Store T) (item : T)
      (hits : (ix : ℕ) → reported ix ↔ IsHit s (alike item) ix) (gone last : G) (left : Store T)
      (took : GivesReported reported give s gone left last)
    where
      removed_hit : (ix : ℕ) → Contains took.indexes ix ↔ IsHit s (alike item) ix
      removed_hit ix = (λ here. (hits ix).0 ((took.each ix).0 here), λ hit. (took.each ix).1 ((hits ix).1 hit))

      pub HasNoHit-given : HasNoHit left (alike item)
      HasNoHit-given = rw took.left (HasNoHit-removed_all s took.indexes (alike item) took.rising removed_hit)

      pub DisplacesAt-given :
          (old new : MapState T) (ix : ℕ)
          → old.store ≡ s
          → (j : ℕ) × reported j
          → ix ≡ next_index left
          → new.store ≡ inserted left item
          → new.memory ≡ old.memory
          → DisplacesAt alike grown old item ix took.displaced new
      DisplacesAt-given old new ix is some index stored same = record {
        conflicts = took.indexes;
        are_conflicts = rw is (record { each = removed_hit; rising = took.rising });
        not_full = λ none full. none some.0 (rw is ((hits some.0).0 some.1));
        items = rw is took.items;
        index = rw (is, ← took.left) index;
        stored = rw (is, ← took.left) stored;
        memory = MakesRoom-same alike grown old new.memory same;
        same_memory = λ _. same;
      }

  module _ (old new : MapState T) (item : T) (valid : IsValid old.store) (ix : ℕ)
      (displaced : List (ℕ × T))
      (did : DisplacesAt alike grown old item ix displaced new) where
    places : OverwritesAt alike grown (length displaced) old item ix (map Some displaced) new
    places = as_overwrite old new item ix displaced did

    pub displaced-valid : IsValid new.store
    displaced-valid = overwritten-valid alike grown old new item valid (length displaced) ix (map Some displaced) places

    pub displaced-count : live_count new.store + length displaced ≡ live_count old.store + 1
    displaced-count =
        let count = overwritten-count alike grown old new item valid (length displaced) ix (map Some displaced) places in
        omega (arith, count, count-somes displaced)

    pub displaced-room : 1 ≤ room old → room new + 1 ≡ room old + length displaced
    displaced-room some =
        let less = overwritten-room alike grown old new item valid (length displaced) ix (map Some displaced) places some in
        omega (arith, less, count-somes displaced)

    -- what was there still is, or was displaced
    pub displaced-kept :
        (j : ℕ) (x : T)
        → get old.store j ≡ Some x
        → (get new.store j ≡ Some x) ⊎ Contains displaced (j, x)
    unfolding places as_overwrite
    displaced-kept j x live = elim (alike item x) as (λ b. alike item x ≡ b → (get new.store j ≡ Some x) ⊎ Contains displaced (j, x)) [
      | true ↦ λ shares.
          inr (subst (λ l. Contains l (j, x)) (sym did.items)
          (live_pair old.store did.conflicts j x ((did.are_conflicts.each j).1 (x, live, shares)) live))
      | false ↦ λ differs.
          inl (overwritten-stays alike grown old new item valid (length displaced) ix (map Some displaced) places j x live
          (λ here.
          let (y, there, shares) = (did.are_conflicts.each j).0 here in
          let one : Some y ≡ Some x = sym there ∙ live in
          let equal : y ≡ x = cc in
          let never : true ≡ false = sym shares ∙ ap (alike item) equal ∙ differs in
          absurd (cc)))
    ] refl

-- ---- many of them, one after the other

-- calls may go on after calls with some of the items
module _ {G T : Type 0} (g : Mut G (ℕ × (T × Unit {0})) (Unit {0})) where
  CanAsk-after :
      (f : G) (xs : List T) (given : List (ℕ × T)) (last : G)
      → ((x : ℕ × T) → Contains given x → Contains xs x.1)
      → CanAsk (TakesAnywhere g) (GivesSomewhere g) f xs
      → FoldsTo (GivesPair g) f given last
      → CanAsk (TakesAnywhere g) (GivesSomewhere g) last xs
  CanAsk-after f xs [] last among can same = subst (λ p. CanAsk (TakesAnywhere g) (GivesSomewhere g) p xs) same can
  CanAsk-after f xs (x ∷ given) last among can (next, called, more) =
      CanAsk-after next xs given last (λ y here. among y (contains_tail x y given here))
      (CanAsk-asked (TakesAnywhere g) (GivesSomewhere g) f xs x.1 true next can (among x (contains_head x given))
      (x.0, called)) more

module _ {T : Type 0} where
  stored_of :
      (slots : List (Option T)) (y : T)
      → Contains (items_in slots) y
      → (j : ℕ) × (slice_index_or slots j None ≡ Some y)
  stored_of [] y here = absurd (contains_none y here)
  stored_of (None ∷ rest) y here = let (j, at) = stored_of rest y here in (suc j, at)
  stored_of (Some x ∷ rest) y here = elim (contains_cases x y (items_in rest) here) [
    | inl same ↦ (0, ap Some same)
    | inr there ↦ let (j, at) = stored_of rest y there in (suc j, at)
  ]

  -- what stands at such indexes is stored
  stored_at :
      (s : Store T) (displaced : List (ℕ × T)) (indexes : List ℕ)
      → displaced ≡ pairs_at s indexes
      → (y : ℕ × T)
      → Contains displaced y
      → Contains (live_items s) y.1
  stored_at s displaced indexes same (ix, y) here =
      Contains-live s ix y (pair_live s indexes ix y (subst (λ l. Contains l (ix, y)) same here))

  -- what is left after removals was there
  was_live :
      (s : Store T) (indexes : List ℕ)
      → AreLiveInTurn s indexes
      → (j : ℕ) (y : T)
      → get (removed_all s indexes) j ≡ Some y
      → get s j ≡ Some y
  was_live s [] live j y here = here
  was_live s (x ∷ rest) live j y here =
      (live_before s x j live.0.0 y live.0.1 (was_live (removed s x) rest live.1 j y here)).1

  -- what is stored after an insert that displaces is the new item, or was stored
  stored_before :
      (alike : T → T → Bool) (grown : ℕ → ℕ) (old new : MapState T) (item : T)
      → IsValid old.store
      → (ix : ℕ) (displaced : List (ℕ × T))
      → DisplacesAt alike grown old item ix displaced new
      → (y : T)
      → Contains (live_items new.store) y
      → (item ≡ y) ⊎ Contains (live_items old.store) y
  stored_before alike grown old new item valid ix displaced did y here =
      let left = removed_all old.store did.conflicts in
      let (j, there) = stored_of new.store.items y here in
      let now : get (inserted left item) j ≡ Some y = subst (λ s. get s j ≡ Some y) did.stored there in
      let in_turn = AreLiveInTurn-rising old.store did.conflicts did.are_conflicts.rising
      (λ k among. (let (x, live, shares) = (did.are_conflicts.each k).0 among in ap is_some live)) in
      let valid_left = IsValid-removed_all old.store did.conflicts in_turn valid in
      elim (live_cases left item j y valid_left now) [
        | inl first ↦ inl first.1
        | inr other ↦
            inr (Contains-live old.store j y (was_live old.store did.conflicts in_turn j y other.1))
      ]

-- calls of an iterator, with one more at their end
came_more :
    {I T : Type 0} (gives : I → Option T → I → Type 0) (it : I) (items : List T) (then : I) (item : T) (rest : I)
    → Yields gives it items then
    → gives then (Some item) rest
    → Yields gives it (items ++ item ∷ []) rest
came_more gives it [] then item rest same step = (rest, subst (λ i. gives i (Some item) rest) (sym same) step, refl)
came_more gives it (x ∷ items) then item rest (next, first, more) step =
    (next, first, came_more gives next items then item rest more step)

FoldsTo-both :
    {P A : Type 0} (R : P → A → P → Type 0) (p : P) (xs ys : List A) (q r : P)
    → FoldsTo R p xs q
    → FoldsTo R q ys r
    → FoldsTo R p (xs ++ ys) r
FoldsTo-both R p [] ys q r same more = subst (λ k. FoldsTo R k ys r) (sym same) more
FoldsTo-both R p (x ∷ xs) ys q r (next, one, rest) more = (next, one, FoldsTo-both R next xs ys q r rest more)

module _
    {I G T : Type 0} (can : I → Type 0) (gives : I → Option T → I → Type 0) (remaining : I → Count)
    (g : Mut G (ℕ × (T × Unit {0})) (Unit {0})) (alike : T → T → Bool) (grown : ℕ → ℕ)
  where
    abbrev pub asks : G → List T → Type 0
    asks f xs = CanAsk (TakesAnywhere g) (GivesSomewhere g) f xs

    -- the stored items may be given to the closure
    pub can-stored : (it : I) (f : G) (s : Store T) → CanDisplace gives g it f s → asks f (live_items s)
    can-stored it f s may =
        CanAsk-among (TakesAnywhere g) (GivesSomewhere g) f (live_items s ++ []) (live_items s)
        (λ y here. Contains-append_left (live_items s) [] y here) (may [] it refl)

    pub MayDisplace-can : (it : I) (f : G) (s : Store T) → MayDisplace gives g it f s → CanDisplace gives g it f s
    MayDisplace-can it f s may =
        may (λ takes came then run.
        CanAsk-everywhere (TakesAnywhere g) (GivesSomewhere g) f (live_items s ++ came)
        (λ p x ix. takes p (ix, x)))

    -- So far each item was inserted: so many.
    pub record Overwriting
        (start : I) (old : MapState T) (gone : G) (it : I) (now : MapState T) (state : G) (count : ℕ)
        : Type 0 where
      pub items : List T
      pub displaced : List (ℕ × T)
      pub counted : count ≡ length items
      pub came : Yields gives start items it
      pub in_turn : FoldsTo (DisplacesNext alike grown) (old, []) items (now, displaced)
      pub handed : FoldsTo (GivesPair g) gone displaced state
      pub may_go_on : can it
      pub valid : IsValid now.store
      pub may_give : CanDisplace gives g it state now.store
      pub nearer : IsFinite (remaining it) × (length items + size (remaining it) ≤ size (remaining start))
      pub roomy : UpTo (remaining start) (room old) → size (remaining it) ≤ room now

    pub Overwriting-first :
        (start : I) (old : MapState T) (gone : G)
        → can start
        → IsFinite (remaining start)
        → IsValid old.store
        → CanDisplace gives g start gone old.store
        → Overwriting start old gone start old gone 0
    Overwriting-first start old gone may finite valid give = record {
      items = [];
      displaced = [];
      counted = refl;
      came = refl;
      in_turn = refl;
      handed = refl;
      may_go_on = may;
      valid = valid;
      may_give = give;
      nearer = (finite, omega arith);
      roomy = λ fits. fits.1;
    }

    module _
        (start it then : I) (old now : MapState T) (gone state : G) (count : ℕ) (item : T)
        (w : Overwriting start old gone it now state count)
        (step : gives it (Some item) then) (goes : MakesProgress can remaining it (Some item) then)
      where
        -- if there was room for all, there is room for this item
        Overwriting-room : UpTo (remaining start) (room old) → 1 ≤ room now
        Overwriting-room fits =
            let (may, ends, less) = goes.on w.nearer.0 in
            omega (arith, less, w.roomy fits)

        pub Overwriting-one :
            (ix : ℕ) (new : MapState T) (last : G) (more : List (ℕ × T))
            → DisplacesAt alike grown now item ix more new
            → FoldsTo (GivesPair g) state more last
            → Overwriting start old gone then new last (count + 1)
        Overwriting-one ix new last more did given =
            let (is_finite, most) = w.nearer in
            let (may, ends, less) = goes.on is_finite in
            let one = length_push w.items item in
            record {
              items = w.items ++ item ∷ [];
              displaced = w.displaced ++ more;
              counted = omega (arith, one, w.counted);
              came = came_more gives start w.items it item then w.came step;
              in_turn = FoldsTo-push (DisplacesNext alike grown) (old, []) w.items (now, w.displaced) item (new, w.displaced ++ more)
                  w.in_turn (ix, more, did, refl);
              handed = FoldsTo-both (GivesPair g) gone w.displaced more state last w.handed given;
              may_go_on = goes.keeps;
              valid = displaced-valid alike grown now new item w.valid ix more did;
              may_give = λ came rest run.
                  let whole = w.may_give (item ∷ came) rest (then, step, run) in
                  let all = live_items now.store ++ item ∷ came in
                  let after : asks last all =
                  CanAsk-after g state all more last
                  (λ y here. Contains-append_left (live_items now.store) (item ∷ came) y.1
                  (stored_at now.store more did.conflicts did.items y here)) whole given in
                  CanAsk-among (TakesAnywhere g) (GivesSomewhere g) last all (live_items new.store ++ came)
                  (λ y here. elim (Contains-append_cases (live_items new.store) came y here) [
                    | inl stored ↦ elim (stored_before alike grown now new item w.valid ix more did y stored) [
                      | inl same ↦
                          Contains-append_right (live_items now.store) (item ∷ came) y
                          (subst (λ z. Contains (item ∷ came) z) same (contains_head item came))
                      | inr was ↦ Contains-append_left (live_items now.store) (item ∷ came) y was
                    ]
                    | inr later ↦
                        Contains-append_right (live_items now.store) (item ∷ came) y (contains_tail item y came later)
                  ]) after;
              nearer = (ends, omega (arith, one, most, less));
              roomy = λ fits.
                  let some = Overwriting-room fits in
                  let left = displaced-room alike grown now new item w.valid ix more did some in
                  omega (arith, less, w.roomy fits, left);
            }

-- ---- what they leave in all

module _ {T : Type 0} (alike : T → T → Bool) (grown : ℕ → ℕ) where
  -- as many items more are there, less those that were displaced, and what was there still is, or was displaced
  pub displaced-along :
      (items : List T) (old new : MapState T) (before after : List (ℕ × T))
      → IsValid old.store
      → FoldsTo (DisplacesNext alike grown) (old, before) items (new, after)
      → (live_count new.store + length after ≡ live_count old.store + length items + length before)
      × ((y : ℕ × T) → Contains before y → Contains after y)
      × ((j : ℕ) (x : T) → get old.store j ≡ Some x → (get new.store j ≡ Some x) ⊎ Contains after (j, x))
  displaced-along [] old new before after valid same =
      let stores : old ≡ new = ap (λ p. p.0) same in
      let lists : before ≡ after = ap (λ p. p.1) same in (
        (let counts = ap (λ (m : MapState T). live_count m.store) stores in
            let lengths = ap length lists in
            omega (arith, counts, lengths)),
        λ y here. subst (λ l. Contains l y) lists here,
        λ j x live. inl (subst (λ (m : MapState T). get m.store j ≡ Some x) stores live),
      )
  displaced-along (item ∷ items) old new before after valid (mid, (ix, more, did, listed), rest) =
      let one = displaced-count alike grown old mid.0 item valid ix more did in
      let (count, keeps, stays) =
      displaced-along items mid.0 new mid.1 after (displaced-valid alike grown old mid.0 item valid ix more did) rest in
      let long = ap length listed ∙ length-append before more in (
        omega (arith, one, count, long),
        λ y here. keeps y (subst (λ l. Contains l y) (sym listed) (Contains-append_left before more y here)),
        λ j x live. elim (displaced-kept alike grown old mid.0 item valid ix more did j x live) [
          | inl still ↦ stays j x still
          | inr gone ↦
              inr (keeps (j, x) (subst (λ l. Contains l (j, x)) (sym listed) (Contains-append_right before more (j, x) gone)))
        ],
      )

  module _
      {I G : Type 0} (gives : I → Option T → I → Type 0) (give : G → ℕ × T → G → Type 0) (may_need_memory : Bool)
    where
      store_of_refused :
          (before new : MapState T) (item : T) (refusal : OverwriteRefusal T)
          → RefusesItem alike grown may_need_memory before item refusal new
          → new.store ≡ before.store
      store_of_refused before new item (Full back) refused = ap (λ (m : MapState T). m.store) refused.unchanged
      store_of_refused before new item (Memory back) refused = elim refused [
        | inl none ↦ none.store_stays
        | inr lacks ↦ ap (λ (m : MapState T). m.store) lacks.unchanged
      ]

      -- beside a map with the same store as the one before
      pub HandsOver-until :
          (first : MapState T) (it rest : I) (old new : MapState T) (items : List T) (displaced : List (ℕ × T))
          (refusal : Option (OverwriteRefusal T)) (gone last : G)
          → old.store ≡ first.store
          → IsValid first.store
          → OverwritesUntil alike grown may_need_memory gives it old items refusal rest new displaced
          → FoldsTo give gone displaced last
          → HandsOver give gone last first.store new.store (length items)
      HandsOver-until first it rest old new items displaced None gone last same valid run given =
          let (count, keeps, stays) = displaced-along items old new [] displaced (subst IsValid (sym same) valid) run.in_turn in
          let counts = ap live_count same in
          record {
            displaced = displaced;
            handed = given;
            counted = omega (arith, count, counts);
            kept = λ j x live. stays j x (subst (λ s. get s j ≡ Some x) (sym same) live);
          }
      HandsOver-until first it rest old new items displaced (Some refusal) gone last same valid (item, before, run, refused) given =
          let (count, keeps, stays) = displaced-along items old before [] displaced (subst IsValid (sym same) valid) run.in_turn in
          let counts = ap live_count same in
          let store = store_of_refused before new item refusal refused in
          let left = ap live_count store in
          record {
            displaced = displaced;
            handed = given;
            counted = omega (arith, count, counts, left);
            kept = λ j x live. elim (stays j x (subst (λ s. get s j ≡ Some x) (sym same) live)) [
              | inl still ↦ inl (subst (λ s. get s j ≡ Some x) (sym store) still)
              | inr gone_by ↦ inr gone_by
            ];
          }
