-- What calls that modify several items in place leave, where each item keeps its keys.
use Rattle.std.proofs.Common.{◌≡◌, ◌≢◌, ◌∙◌, ◌+◌, ◌<◌, ◌≤◌, inl, inr, ℕ, suc, Bool, true, List, [], ◌∷◌, length, drop, Option, Some, None, refl, sym, ap, subst, Ordering, arith}
use Rattle.std.specs.Borrow.{MutBor}
use Rattle.std.specs.Cmp.{IsTotalOrder}
use Rattle.std.specs.Cmp.Lexicographic.{options_total}
use Rattle.std.specs.Fn.{Mut, CalledAtMut}
use Rattle.std.specs.Option.{option_cmp, option_map}
use Rattle.std.specs.Ordering.{nat_cmp, ordering_then}
use Rattle.std.specs.Range.Bound.{bound_map}
use Rattle.std.specs.declared.cmp.Ordering.TheVariants.{Less, Equal}
use Rattle.std.specs.declared.ops.Bound.{Bound}
use Rattle.std.specs.declared.ops.Bound.TheVariants.{Included, Excluded, Unbounded}
use Rattle.std.proofs.lemmas.Bool.{cases_eq, cases_lt}
use Rattle.std.proofs.lemmas.Cmp.{alike_right}
use Rattle.std.proofs.lemmas.List.{at_drop_more, drop_all, get_or_past}
use Rattle.iddqd.specs.Store.{Store, IsValid, get, live_count, rebound}
use Rattle.iddqd.specs.ItemSet.{SizedStore}
use Rattle.iddqd.specs.LiveItems.{items_in, live_items, live_pairs, pairs_from}
use Rattle.iddqd.proofs.LiveCountLemmas.{live_count-rebound}
use Rattle.iddqd.proofs.StoreLemmas.{get-rebound_at, get-rebound_other}
use Rattle.iddqd_keys.specs.KeyWalk.{by_key_then_index, IsFirstHit, IsNextHit, key_at, pairs_at, SortsWithin}
use Rattle.iddqd_keys.specs.OrderedQuery.{FitsOrder, is_equal, is_from, is_up_to, is_between}
use Rattle.iddqd_keys.specs.Scan.{IsHit}
use Rattle.iddqd_keys.proofs.KeyWalkLemmas.{between_equal, pairs_at-first, SortsWithin-none}
use Rattle.iddqd_keys.proofs.SortedLemmas.{sorted_once}
use Rattle.iddqd_keys.proofs.NextLemmas.{IsFrom, SortsFrom, SortsFrom-more, SortsFrom-none, SortsWithin-from, from_behind, from_later, next_hits, not_before_itself}
use Rattle.iddqd_map.specs.Groups.{CountsHits}
use Rattle.iddqd_map.specs.ModifyMany.{CallsAlong, IsStoredHit, KeepsKeys, MayLeave, ModifiesEach, ModifiesWithin, TakesMut, WasCalled}
use Rattle.iddqd_map.specs.RangeRetain.{AsksFrom, AsksWithin, KeepsMisses}
use Rattle.iddqd_map.specs.Ranges.{itself}
use Rattle.iddqd_map.specs.Retain.{AsksInTurn}
use Rattle.iddqd_map.proofs.RangeRetainLemmas.{first_passes, to_ask, to_ask-kept, to_ask-most}

module _ {F T : Type 0} (g : Mut F (MutBor T × Unit {0}) (Unit {0} × (MutBor T × Unit {0}))) where
  -- no call
  pub CallsAlong-none : (f : F) (s : Store T) → CallsAlong g [] f s s f
  CallsAlong-none f s = record { calls = []; each_once = refl; were_called = refl; left = refl }

  -- a call, and then those that follow
  pub CallsAlong-first :
      (pairs : List (ℕ × T)) (f after last : F) (old new : Store T) (ix : ℕ) (was left : T)
      → CalledAtMut g f was tt after left
      → CallsAlong g pairs after (rebound old ix left) new last
      → CallsAlong g ((ix, was) ∷ pairs) f old new last
  CallsAlong-first pairs f after last old new ix was left called then = record {
    calls = ((ix, was), left) ∷ then.calls;
    each_once = ap (λ l. (ix, was) ∷ l) then.each_once;
    were_called = (after, called, then.were_called);
    left = then.left;
  }

  -- the item that a call left
  pub WasCalled-now :
      (f after : F) (s : Store T) (ix : ℕ) (was here left : T)
      → get s ix ≡ Some here
      → CalledAtMut g f was tt after left
      → WasCalled g was (get (rebound s ix left) ix)
  WasCalled-now f after s ix was here left live called = record {
    before = f;
    after = after;
    left = left;
    called = called;
    there = get-rebound_at s ix left here live;
  }

-- two stores whose items at each index have the same keys, as those before and after an item was modified
module _ {T K : Type 0} (keys : T → K) where
  abbrev pub HaveKeysOf : Store T → Store T → Type 0
  HaveKeysOf s t = (j : ℕ) → option_map keys (get t j) ≡ option_map keys (get s j)

  pub HaveKeysOf-rebound :
      (s t : Store T) (ix : ℕ) (was left : T)
      → HaveKeysOf s t
      → get t ix ≡ Some was
      → keys left ≡ keys was
      → HaveKeysOf s (rebound t ix left)
  HaveKeysOf-rebound s t ix was left have live same j = elim (cases_eq j ix) [
    | inl at ↦
        let there = subst (λ k. get (rebound t ix left) k ≡ Some left) (sym at) (get-rebound_at t ix left was live) in
        let before = subst (λ k. get t k ≡ Some was) (sym at) live in
        ap (option_map keys) there ∙ ap Some same ∙ sym (ap (option_map keys) before) ∙ have j
    | inr apart ↦ ap (option_map keys) (get-rebound_other t ix j left apart) ∙ have j
  ]

  module _
      (order : T → T → Ordering) (total : IsTotalOrder order)
      (tie : (x y : T) → keys x ≡ keys y → order x y ≡ Equal)
    where
      slots_tie :
          (a b : Option T)
          → option_map keys a ≡ option_map keys b
          → option_cmp order (option_map itself a) (option_map itself b) ≡ Equal
      slots_tie None None same = refl
      slots_tie None (Some y) same = absurd (cc)
      slots_tie (Some x) None same = absurd (cc)
      slots_tie (Some x) (Some y) same = let one : keys x ≡ keys y = cc in tie x y one

      module _ (s t : Store T) (have : HaveKeysOf s t) where
        ties : (j : ℕ) → option_cmp order (key_at itself t j) (key_at itself s j) ≡ Equal
        ties j = slots_tie (get t j) (get s j) (have j)

        -- their indexes compare alike
        tied_order : (i j : ℕ) → by_key_then_index itself order t i j ≡ by_key_then_index itself order s i j
        tied_order i j =
            let o = options_total total in
            let left = o.congr (key_at itself t i) (key_at itself s i) (key_at itself t j) (ties i) in
            let right = alike_right o (key_at itself t j) (key_at itself s j) (key_at itself s i) (ties j) in
            ap (λ r. ordering_then r (nat_cmp i j)) (left ∙ right)

        -- and the same indexes hit, by a test that doesn't tell apart items that tie
        module _ (test : T → Bool) (level : (x y : T) → order x y ≡ Equal → test x ≡ test y) where
          passes_still :
              (a b : Option T) (x : T)
              → option_map keys a ≡ option_map keys b
              → a ≡ Some x
              → test x ≡ true
              → (y : T) × (b ≡ Some y) × (test y ≡ true)
          passes_still a None x same is passes = let here = rw is at same in absurd (cc)
          passes_still a (Some y) x same is passes =
              let here = rw is at same in
              let one : keys x ≡ keys y = cc in
              (y, refl, sym (level x y (tie x y one)) ∙ passes)

          pub IsHit-back : (j : ℕ) → IsHit t test j → IsHit s test j
          IsHit-back j (x, live, passes) = passes_still (get t j) (get s j) x (have j) live passes

          pub IsHit-forth : (j : ℕ) → IsHit s test j → IsHit t test j
          IsHit-forth j (x, live, passes) = passes_still (get s j) (get t j) x (sym (have j)) live passes

          pub IsNextHit-tied :
              (ix : ℕ) (next : Option ℕ)
              → IsNextHit itself order t test ix next
              → IsNextHit itself order s test ix next
          IsNextHit-tied ix None is = λ j hit behind. is j (IsHit-forth j hit) (tied_order ix j ∙ behind)
          IsNextHit-tied ix (Some n) is = (
            IsHit-back n is.0,
            sym (tied_order ix n) ∙ is.1,
            λ j hit behind apart. sym (tied_order n j) ∙ is.2 j (IsHit-forth j hit) (tied_order ix j ∙ behind) apart,
          )

-- bounds don't tell apart items that tie
module _
    {Q T : Type 0} (order : T → T → Ordering) (cmp : Q → T → Ordering) (fits : (q : Q) → FitsOrder order (cmp q))
    (x y : T) (same : order x y ≡ Equal)
  where
    is_from-tied : (lower : Bound Q) → is_from (bound_map cmp lower) x ≡ is_from (bound_map cmp lower) y
    is_from-tied (Included q) = rw ((fits q).equal_keys x y same) refl
    is_from-tied (Excluded q) = rw ((fits q).equal_keys x y same) refl
    is_from-tied Unbounded = refl

    is_up_to-tied : (upper : Bound Q) → is_up_to (bound_map cmp upper) x ≡ is_up_to (bound_map cmp upper) y
    is_up_to-tied (Included q) = rw ((fits q).equal_keys x y same) refl
    is_up_to-tied (Excluded q) = rw ((fits q).equal_keys x y same) refl
    is_up_to-tied Unbounded = refl

-- nor does their test
pub level_between :
    {Q T : Type 0} (order : T → T → Ordering) (cmp : Q → T → Ordering) (fits : (q : Q) → FitsOrder order (cmp q))
    (lower upper : Bound Q) (x y : T)
    → order x y ≡ Equal
    → is_between (bound_map cmp lower) (bound_map cmp upper) x
    ≡ is_between (bound_map cmp lower) (bound_map cmp upper) y
level_between order cmp fits lower upper x y same =
    rw (is_from-tied order cmp fits x y same lower, is_up_to-tied order cmp fits x y same upper) refl

-- calls along the slots
module _ {F T : Type 0} (g : Mut F (MutBor T × Unit {0}) (Unit {0} × (MutBor T × Unit {0}))) where
  -- the items of the slots before p were modified, and from p on all is as it was
  pub record Modifying (f : F) (old now : Store T) (p : ℕ) (state : F) : Type 0 where
    pub asks : AsksInTurn (TakesMut g) (MayLeave g) state (items_in (drop p old.items))
    pub calls : (new : Store T) (last : F)
        → CallsAlong g (pairs_from p (drop p old.items)) state now new last
        → CallsAlong g (live_pairs old) f old new last
    pub each : (j : ℕ) (was : T) → j < p → get old j ≡ Some was → WasCalled g was (get now j)
    pub rest : (j : ℕ) → p ≤ j → get now j ≡ get old j
    pub vacant : (j : ℕ) → get old j ≡ None → get now j ≡ None
    pub count : live_count now ≡ live_count old
    pub limit : now.limit ≡ old.limit

  pub Modifying-first :
      (f : F) (old : Store T)
      → AsksInTurn (TakesMut g) (MayLeave g) f (live_items old)
      → Modifying f old old 0 f
  Modifying-first f old asks = record {
    asks = asks;
    calls = λ new last along. along;
    each = λ j was less. absurd (omega (arith, less));
    rest = λ j from. refl;
    vacant = λ j is. is;
    count = refl;
    limit = refl;
  }

  module _ (f : F) (old now : Store T) (p : ℕ) (state : F) (w : Modifying f old now p state) where
    -- all slots
    pub Modifying-all : length old.items ≤ p → ModifiesEach g f old now state
    Modifying-all past =
        let none : pairs_from p (drop p old.items) ≡ [] = ap (pairs_from p) (drop_all p old.items past) in
        record {
          calls = w.calls now state (subst (λ l. CallsAlong g l state now now state) (sym none) (CallsAlong-none g state now));
          each = λ j was is. elim (cases_lt j p) [
            | inl less ↦ w.each j was less is
            | inr most ↦ absurd (let none : get old j ≡ None = get_or_past old.items j None (omega (arith, past, most)) in cc)
          ];
        }

    module _ (within : p < length old.items) where
      to_come :
          {A : Type 0} (walk : List (Option T) → A) (slot : Option T)
          → get old p ≡ slot
          → walk (drop p old.items) ≡ walk (slot ∷ drop (p + 1) old.items)
      to_come walk slot is = at_drop_more walk old.items p None within ∙ ap (λ o. walk (o ∷ drop (p + 1) old.items)) is

      was_here : (slot : Option T) → get now p ≡ slot → get old p ≡ slot
      was_here slot is = sym (w.rest p (omega arith)) ∙ is

      -- a slot without an item
      pub Modifying-vacant : get now p ≡ None → Modifying f old now (p + 1) state
      Modifying-vacant vacant =
          let none = was_here None vacant in
          record {
            asks = subst (AsksInTurn (TakesMut g) (MayLeave g) state) (to_come items_in None none) w.asks;
            calls = λ new last along.
                w.calls new last
                (subst (λ l. CallsAlong g l state now new last) (sym (to_come (pairs_from p) None none)) along);
            each = λ j was less is. elim (cases_eq j p) [
              | inl at ↦ absurd (let here = subst (λ k. get old k ≡ None) (sym at) none in cc)
              | inr other ↦ w.each j was (omega (arith, less, other)) is
            ];
            rest = λ j from. w.rest j (omega arith);
            vacant = w.vacant;
            count = w.count;
            limit = w.limit;
          }

      module _ (item : T) (live : get now p ≡ Some item) where
        asks-next : AsksInTurn (TakesMut g) (MayLeave g) state (item ∷ items_in (drop (p + 1) old.items))
        asks-next =
            subst (AsksInTurn (TakesMut g) (MayLeave g) state) (to_come items_in (Some item) (was_here (Some item) live)) w.asks

        -- its item may be given to the closure
        pub Modifying-takes : TakesMut g state item
        Modifying-takes = asks-next.0

        pub Modifying-called :
            (left : T) (after : F) (then : Store T)
            → CalledAtMut g state item tt after left
            → then ≡ rebound now p left
            → IsValid now
            → Modifying f old then (p + 1) after
        Modifying-called left after then called is valid =
            let was = was_here (Some item) live in
            rw is
            (record {
              asks = asks-next.1 true after (left, called);
              calls = λ new last along.
                  w.calls new last
                  (subst (λ l. CallsAlong g l state now new last) (sym (to_come (pairs_from p) (Some item) was))
                  (CallsAlong-first g (pairs_from (p + 1) (drop (p + 1) old.items)) state after last now new p item left called along));
              each = λ j before less there. elim (cases_eq j p) [
                | inl at ↦
                    let here : Some item ≡ Some before = sym was ∙ subst (λ k. get old k ≡ Some before) at there in
                    let one : item ≡ before = cc in
                    subst (λ k. WasCalled g before (get (rebound now p left) k)) (sym at)
                    (WasCalled-now g state after now p before item left live
                    (subst (λ x. CalledAtMut g state x tt after left) one called))
                | inr other ↦
                    subst (WasCalled g before) (sym (get-rebound_other now p j left other))
                    (w.each j before (omega (arith, less, other)) there)
              ];
              rest = λ j from. get-rebound_other now p j left (λ same. omega (arith, from, same)) ∙ w.rest j (omega arith);
              vacant = λ j none. elim (cases_eq j p) [
                | inl at ↦ absurd (let here = subst (λ k. get old k ≡ None) at none in cc)
                | inr other ↦ get-rebound_other now p j left other ∙ w.vacant j none
              ];
              count = live_count-rebound now p left item valid live ∙ w.count;
              limit = w.limit;
            })

-- calls along the order of a key, of the items within
module _
    {F T K : Type 0} (g : Mut F (MutBor T × Unit {0}) (Unit {0} × (MutBor T × Unit {0}))) (keys : T → K)
    (order : T → T → Ordering) (total : IsTotalOrder order) (tie : (x y : T) → keys x ≡ keys y → order x y ≡ Equal)
    (within : T → Bool) (level : (x y : T) → order x y ≡ Equal → within x ≡ within y)
  where
    -- the items before the next were modified, and from there on all is as it was
    pub record ModifyingWithin (f : F) (old now : Store T) (next : Option ℕ) (state : F) (count : ℕ) : Type 0 where
      pub asks : (n : ℕ) → AsksFrom order within (TakesMut g) (MayLeave g) old n state next
      pub have : HaveKeysOf keys old now
      pub passing : (n : ℕ) → next ≡ Some n → IsHit old within n
      pub calls : (rest : List ℕ) (new : Store T) (last : F)
          → SortsFrom itself order within old next rest
          → CallsAlong g (pairs_at old rest) state now new last
          → (indexes : List ℕ) × SortsWithin itself order within old indexes
          × (count + length rest ≡ length indexes)
          × CallsAlong g (pairs_at old indexes) f old new last
      pub each : (j : ℕ) (was : T)
          → get old j ≡ Some was
          → within was ≡ true
          → (IsFrom itself order old next j → ⊥)
          → WasCalled g was (get now j)
      pub ahead : (j : ℕ) → IsFrom itself order old next j → get now j ≡ get old j
      pub others : KeepsMisses old within now
      pub few : count + to_ask itself order old next ≤ length old.items
      pub as_many : live_count now ≡ live_count old
      pub limit : now.limit ≡ old.limit

    pub ModifyingWithin-first :
        (f : F) (s : Store T) (ix : ℕ)
        → AsksWithin order within (TakesMut g) (MayLeave g) f s
        → IsFirstHit itself order s within (Some ix)
        → ModifyingWithin f s s (Some ix) f 0
    ModifyingWithin-first f s ix asks first = record {
      asks = λ n. asks.at n (Some ix) first;
      have = λ j. refl;
      passing = first_passes itself order s within (Some ix) first;
      calls = λ rest new last sorts along.
          (rest, SortsWithin-from itself order total s within (Some ix) rest first sorts, omega arith, along);
      each = λ j was live passes not_from. elim (cases_eq j ix) [
        | inl same ↦ absurd (not_from (inl same))
        | inr apart ↦ absurd (not_from (inr (first.1 j (was, live, passes) apart)))
      ];
      ahead = λ j from. refl;
      others = λ j miss. refl;
      few = omega (arith, to_ask-most itself order s (Some ix));
      as_many = refl;
      limit = refl;
    }

    -- no item is within
    pub ModifiesWithin-none :
        (f : F) (s : Store T)
        → IsFirstHit itself order s within None
        → ModifiesWithin g order within f s s f 0
    ModifiesWithin-none f s none = record {
      indexes = [];
      sorted = SortsWithin-none itself order s within none;
      counted = refl;
      calls = CallsAlong-none g f s;
      each = λ j was live passes. absurd (none j (was, live, passes));
    }

    -- all of them
    pub ModifyingWithin-all :
        (f : F) (old now : Store T) (state : F) (count : ℕ)
        → ModifyingWithin f old now None state count
        → ModifiesWithin g order within f old now state count
    ModifyingWithin-all f old now state count w =
        let (indexes, sorted, counted, along) = w.calls [] now state (SortsFrom-none itself order total old within) (CallsAlong-none g state now) in
        record {
          indexes = indexes;
          sorted = sorted;
          counted = omega (arith, counted);
          calls = along;
          each = λ j was live passes. w.each j was live passes (λ from. from);
        }

    -- one call at the next: what it left of the item, and that this is within still
    pub record ModifiesOne (now : Store T) (capacity : ℕ) (then : SizedStore T) (ix : ℕ) (state after : F) : Type 0 where
      pub item : T
      pub left : T
      pub live : get now ix ≡ Some item
      pub called : CalledAtMut g state item tt after left
      pub same : keys left ≡ keys item
      pub is : then.store ≡ rebound now ix left
      pub hit : IsHit then.store within ix
      pub slots : then.capacity ≡ capacity

    module _
        (f : F) (old now : Store T) (ix : ℕ) (before : Option ℕ) (state : F) (count : ℕ)
        (given : ModifyingWithin f old now before state count) (at : before ≡ Some ix)
      where
        w : ModifyingWithin f old now (Some ix) state count
        w = subst (λ n. ModifyingWithin f old now n state count) at given

        old_here : (item : T) → get now ix ≡ Some item → get old ix ≡ Some item
        old_here item live = sym (w.ahead ix (inl refl)) ∙ live

        passes_here : (item : T) → get now ix ≡ Some item → within item ≡ true
        passes_here item live =
            let (x, there, passes) = w.passing ix refl in
            let same : Some x ≡ Some item = sym there ∙ old_here item live in
            let one : x ≡ item = cc in
            subst (λ y. within y ≡ true) one passes

        -- the item may be given to the closure
        pub ModifyingWithin-takes : (item : T) → get now ix ≡ Some item → TakesMut g state item
        ModifyingWithin-takes item live = ((w.asks 1) item (old_here item live)).0

        -- a call at the next
        pub ModifyingWithin-one :
            (then : SizedStore T) (capacity : ℕ) (after : F)
            → KeepsKeys g keys (IsStoredHit old within)
            → ((item : T)
            → get now ix ≡ Some item
            → (left : T) × CalledAtMut g state item tt after left
            × (then ≡ record { store = rebound now ix left; capacity = capacity }))
            → ModifiesOne now capacity then ix state after
        ModifyingWithin-one then capacity after keeps calls =
            let (item, there, passes) = w.passing ix refl in
            let live : get now ix ≡ Some item = w.ahead ix (inl refl) ∙ there in
            let (left, called, made) = calls item live in
            let same = keeps state item after left (ix, there, passes) called in
            let is = ap (λ (z : SizedStore T). z.store) made in
            record {
              item = item;
              left = left;
              live = live;
              called = called;
              same = same;
              is = is;
              hit = (
                left,
                ap (λ t. get t ix) is ∙ get-rebound_at now ix left item live,
                level left item (tie left item same) ∙ passes,
              );
              slots = ap (λ (z : SizedStore T). z.capacity) made;
            }

        module _ (sized : SizedStore T) (capacity : ℕ) (after : F) (one : ModifiesOne now capacity sized ix state after)
            (next : Option ℕ) (is_next : IsNextHit itself order sized.store within ix next) where
          abbrev then : Store T
          then = sized.store

          have_then : HaveKeysOf keys old then
          have_then =
              subst (HaveKeysOf keys old) (sym one.is)
              (HaveKeysOf-rebound keys old now ix one.item one.left w.have one.live one.same)

          next_is : IsNextHit itself order old within ix next
          next_is = IsNextHit-tied keys order total tie old then have_then within level ix next is_next

          was : get old ix ≡ Some one.item
          was = old_here one.item one.live

          hit : IsHit old within ix
          hit = (one.item, was, passes_here one.item one.live)

          stays : (j : ℕ) → j ≢ ix → get then j ≡ get now j
          stays j apart = ap (λ t. get t j) one.is ∙ get-rebound_other now ix j one.left apart

          -- how many there may be still falls with each call
          pub ModifyingWithin-fewer : to_ask itself order old next < to_ask itself order old before
          ModifyingWithin-fewer =
              subst (λ n. to_ask itself order old next < to_ask itself order old n) (sym at)
              (to_ask-kept itself order total old within ix next next_is one.item was)

          calls_on :
              (rest : List ℕ) (new : Store T) (last : F)
              → SortsFrom itself order within old next rest
              → CallsAlong g (pairs_at old rest) after then new last
              → (indexes : List ℕ) × SortsWithin itself order within old indexes
              × (count + 1 + length rest ≡ length indexes)
              × CallsAlong g (pairs_at old indexes) f old new last
          calls_on rest new last sorts along =
              let more = SortsFrom-more itself order total old within ix next next_is rest hit sorts in
              let first = CallsAlong-first g (pairs_at old rest) state after last now new ix one.item one.left one.called
              (subst (λ t. CallsAlong g (pairs_at old rest) after t new last) one.is along) in
              let pairs = pairs_at-first old (ix ∷ rest) rest ix one.item refl was in
              let (indexes, sorted, counted, all) = w.calls (ix ∷ rest) new last more
              (subst (λ l. CallsAlong g l state now new last) (sym pairs) first) in
              (indexes, sorted, omega (arith, counted), all)

          each_on :
              (j : ℕ) (before : T)
              → get old j ≡ Some before
              → within before ≡ true
              → (IsFrom itself order old next j → ⊥)
              → WasCalled g before (get then j)
          each_on j before there passes not_from = elim (cases_eq j ix) [
            | inl here ↦
                let both : Some one.item ≡ Some before = sym was ∙ subst (λ k. get old k ≡ Some before) here there in
                let same : one.item ≡ before = cc in
                rw (one.is, here)
                (WasCalled-now g state after now ix before one.item one.left one.live
                (subst (λ x. CalledAtMut g state x tt after one.left) same one.called))
            | inr apart ↦
                subst (WasCalled g before) (sym (stays j apart))
                (w.each j before there passes (λ from. elim from [
                  | inl here ↦ apart here
                  | inr behind ↦ not_from (from_behind itself order total old within ix next j next_is (before, there, passes) behind)
                ]))
          ]

          -- what holds after it
          pub ModifyingWithin-next : IsValid now → ModifyingWithin f old sized.store next after (count + 1)
          ModifyingWithin-next valid = record {
            asks = λ n. ((w.asks (suc n)) one.item was).1 true after next (one.left, one.called) next_is;
            have = have_then;
            passing = next_hits itself order old within ix next next_is;
            calls = calls_on;
            each = each_on;
            ahead = λ j from.
                let behind = from_later itself order total old within ix next j next_is from in
                let apart : j ≢ ix = λ here. not_before_itself itself order total old ix (subst (λ k. by_key_then_index itself order old ix k ≡ Less) here behind) in
                stays j apart ∙ w.ahead j (inr behind);
            others = λ j miss.
                let apart : j ≢ ix = λ here. miss (subst (IsHit old within) (sym here) hit) in
                stays j apart ∙ w.others j miss;
            few = omega (arith, w.few, to_ask-kept itself order total old within ix next next_is one.item was);
            as_many = ap live_count one.is ∙ live_count-rebound now ix one.left one.item valid one.live ∙ w.as_many;
            limit = ap (λ (t : Store T). t.limit) one.is ∙ w.limit;
          }

-- how many items such calls modified
pub ModifiesWithin-counts :
    {F T : Type 0} (g : Mut F (MutBor T × Unit {0}) (Unit {0} × (MutBor T × Unit {0})))
    (order : T → T → Ordering) (total : IsTotalOrder order) (within : T → Bool) (f last : F) (old new : Store T)
    (count : ℕ)
    → ModifiesWithin g order within f old new last count
    → CountsHits old within count
ModifiesWithin-counts g order total within f last old new count did = (
  did.indexes,
  record { each = did.sorted.each; once = sorted_once itself order total old within did.indexes did.sorted },
  did.counted,
)

-- between a query and itself are the items at which it is Equal
module _
    {F T : Type 0} (g : Mut F (MutBor T × Unit {0}) (Unit {0} × (MutBor T × Unit {0}))) (comparing : T → Ordering)
    (old : Store T)
  where
    pub KeepsKeys-group :
        {K : Type 0} (keys : T → K)
        → KeepsKeys g keys (IsStoredHit old (is_equal comparing))
        → KeepsKeys g keys (IsStoredHit old (is_between (Included comparing) (Included comparing)))
    KeepsKeys-group keys keeps =
        subst (λ within. KeepsKeys g keys (IsStoredHit old within)) (sym (between_equal comparing)) keeps

    pub ModifiesWithin-group :
        (order : T → T → Ordering) (f last : F) (new : Store T) (count : ℕ)
        → ModifiesWithin g order (is_between (Included comparing) (Included comparing)) f old new last count
        → ModifiesWithin g order (is_equal comparing) f old new last count
    ModifiesWithin-group order f last new count along =
        subst (λ within. ModifiesWithin g order within f old new last count) (between_equal comparing) along
