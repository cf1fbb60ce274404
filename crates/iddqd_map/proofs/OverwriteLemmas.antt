-- Items that are removed one after the other, by rising index, into places that have nothing.
use Rattle.std.proofs.Common.{◌≡◌, ◌≢◌, ◌∙◌, ◌⊎◌, inl, inr, ◌↔◌, ◌+◌, ◌<◌, ◌≤◌, ℕ, zero, suc, Bool, true, false, nat_eq, List, [], ◌∷◌, ◌++◌, length, map, Option, Some, None, slice_get, slice_set, if◌then◌else◌, refl, sym, ap, subst, arith}
use Rattle.std.proofs.lemmas.Grind.{common_steps}
use Rattle.std.proofs.lemmas.List.{map-append, length-map, length_push}
use Rattle.std.proofs.lemmas.Bool.{cases_eq}
use Rattle.std.specs.List.{Contains}
use Rattle.iddqd.specs.Store.{Store, get, next_index, inserted, removed}
use Rattle.iddqd.proofs.LiveLemmas.{get-removed_other}
use Rattle.iddqd.proofs.StoreLemmas.{contains_head, contains_tail, contains_cases, contains_none}
use Rattle.iddqd_keys.specs.Scan.{IsLive, IsHit, HasNoHit}
use Rattle.iddqd_keys.proofs.RemovalLemmas.{AreLiveInTurn, AreLiveInTurn-rising}
use Rattle.iddqd_keys.proofs.ScanLemmas.{live_before}
use Rattle.iddqd_map.specs.Map.{MapState, MapMemory}
use Rattle.iddqd_map.specs.Memory.{MakesRoom}
use Rattle.iddqd_map.specs.Calls.{InsertsAt, OverwritesAt}
use Rattle.iddqd_map.specs.KeyIndex.{IsNextReported}
use Rattle.iddqd_keys.specs.KeyWalk.{index_with_item}
use Rattle.iddqd_keys.specs.Removals.{IsIncreasing, padded, removed_all}
use Rattle.iddqd_map.specs.Overwrite.{TakesAll}

-- a rising list has no more members than a list that has them all
module _ where
  abbrev without : ℕ → List ℕ → List ℕ
  without x [] = []
  without x (y ∷ rest) = if nat_eq y x then rest else y ∷ without x rest

  length-without : (x : ℕ) (ys : List ℕ) → Contains ys x → length (without x ys) + 1 ≡ length ys
  length-without x [] here = absurd (contains_none x here)
  length-without x (y ∷ rest) here = by_test (λ behind. length-without x rest behind) (nat_eq y x) refl
    where
      by_test :
          (Contains rest x → length (without x rest) + 1 ≡ length rest)
          → (b : Bool)
          → nat_eq y x ≡ b
          → length (if b then rest else y ∷ without x rest) + 1 ≡ suc (length rest)
      by_test ih true is = omega arith
      by_test ih false is = elim (contains_cases y x rest here) [
        | inl same ↦ absurd (grind (arith, common_steps, is, same))
        | inr behind ↦ let e = ih behind in omega (arith, e)
      ]

  contains-without : (x z : ℕ) (ys : List ℕ) → z ≢ x → Contains ys z → Contains (without x ys) z
  contains-without x z [] other here = absurd (contains_none z here)
  contains-without x z (y ∷ rest) other here = by_test (λ behind. contains-without x z rest other behind) (nat_eq y x) refl
    where
      by_test :
          (Contains rest z → Contains (without x rest) z)
          → (b : Bool)
          → nat_eq y x ≡ b
          → Contains (if b then rest else y ∷ without x rest) z
      by_test ih true is = elim (contains_cases y z rest here) [
        | inl same ↦ absurd (other (grind (arith, common_steps, is, same)))
        | inr behind ↦ behind
      ]
      by_test ih false is = elim (contains_cases y z rest here) [
        | inl same ↦ subst (λ w. Contains (y ∷ without x rest) w) same (contains_head y (without x rest))
        | inr behind ↦ contains_tail y z (without x rest) (ih behind)
      ]

  pub rising_fits :
      (xs ys : List ℕ)
      → IsIncreasing xs
      → ((x : ℕ) → Contains xs x → Contains ys x)
      → length xs ≤ length ys
  rising_fits [] ys rising among = omega arith
  rising_fits (x ∷ rest) ys rising among =
      let fits = rising_fits rest (without x ys) rising.1 (λ z here.
      let above = rising.0 z here in
      contains-without x z ys (λ same. omega (arith, same, above)) (among z (contains_tail x z rest here))) in
      let e = length-without x ys (among x (contains_head x rest)) in
      omega (arith, fits, e)

-- a list with one more at its end
pub contains_push : (l : List ℕ) (j ix : ℕ) → Contains (l ++ j ∷ []) ix → Contains l ix ⊎ (j ≡ ix)
contains_push [] j ix here = elim (contains_cases j ix [] here) [ inl same ↦ inr same | inr none ↦ absurd (contains_none ix none) ]
contains_push (x ∷ rest) j ix here = elim (contains_cases x ix (rest ++ j ∷ []) here) [
  | inl same ↦ inl (subst (λ w. Contains (x ∷ rest) w) same (contains_head x rest))
  | inr behind ↦ elim (contains_push rest j ix behind) [ inl inside ↦ inl (contains_tail x ix rest inside) | inr same ↦ inr same ]
]

pub push_keeps : (l : List ℕ) (j ix : ℕ) → Contains l ix → Contains (l ++ j ∷ []) ix
push_keeps [] j ix here = absurd (contains_none ix here)
push_keeps (x ∷ rest) j ix here = elim (contains_cases x ix rest here) [
  | inl same ↦ subst (λ w. Contains (x ∷ (rest ++ j ∷ [])) w) same (contains_head x (rest ++ j ∷ []))
  | inr behind ↦ contains_tail x ix (rest ++ j ∷ []) (push_keeps rest j ix behind)
]

pub push_adds : (l : List ℕ) (j : ℕ) → Contains (l ++ j ∷ []) j
push_adds [] j = contains_head j []
push_adds (x ∷ rest) j = contains_tail x j (rest ++ j ∷ []) (push_adds rest j)

pub IsIncreasing-push :
    (l : List ℕ) (j : ℕ)
    → IsIncreasing l
    → ((ix : ℕ) → Contains l ix → ix < j)
    → IsIncreasing (l ++ j ∷ [])
IsIncreasing-push [] j rising below = (λ y here. absurd (contains_none y here), tt)
IsIncreasing-push (x ∷ rest) j rising below = (
  λ y here. elim (contains_push rest j y here) [
    | inl inside ↦ rising.0 y inside
    | inr same ↦ subst (λ w. x < w) same (below x (contains_head x rest))
  ],
  IsIncreasing-push rest j rising.1 (λ ix here. below ix (contains_tail x ix rest here)),
)

-- places, of which the first so many have something
module _ {T : Type 0} where
  pub length-padded : (n : ℕ) (xs : List (Option T)) → length (padded n xs) ≡ n
  length-padded zero xs = refl
  length-padded (suc n) [] = ap suc (length-padded n [])
  length-padded (suc n) (x ∷ rest) = ap suc (length-padded n rest)

  padded-vacant : (n : ℕ) (xs : List (Option T)) → length xs < n → slice_get (padded n xs) (length xs) ≡ Some None
  padded-vacant zero xs less = absurd (omega (arith, less))
  padded-vacant (suc n) [] less = refl
  padded-vacant (suc n) (x ∷ rest) less = padded-vacant n rest (omega (arith, less))

  padded-push :
      (n : ℕ) (xs : List (Option T)) (item : Option T)
      → length xs < n
      → slice_set (padded n xs) (length xs) item ≡ padded n (xs ++ item ∷ [])
  padded-push zero xs item less = absurd (omega (arith, less))
  padded-push (suc n) [] item less = refl
  padded-push (suc n) (x ∷ rest) item less = ap (λ l. x ∷ l) (padded-push n rest item (omega (arith, less)))

module _ {T : Type 0} where
  -- a hit that is left was one, and at another index than those that were removed
  hit_left :
      (s : Store T) (indexes : List ℕ) (test : T → Bool)
      → AreLiveInTurn s indexes
      → (j : ℕ)
      → IsHit (removed_all s indexes) test j
      → (Contains indexes j → ⊥) × IsHit s test j
  hit_left s [] test live j hit = (contains_none j, hit)
  hit_left s (x ∷ rest) test live j hit =
      let (other, (y, is, passed)) = hit_left (removed s x) rest test live.1 j hit in
      let (apart, was) = live_before s x j live.0.0 y live.0.1 is in (
        λ here. elim (contains_cases x j rest here) [ inl same ↦ apart (sym same) | inr behind ↦ other behind ],
        (y, was, passed),
      )

  -- once all that hit are removed none does
  pub HasNoHit-removed_all :
      (s : Store T) (indexes : List ℕ) (test : T → Bool)
      → IsIncreasing indexes
      → ((ix : ℕ) → Contains indexes ix ↔ IsHit s test ix)
      → HasNoHit (removed_all s indexes) test
  HasNoHit-removed_all s indexes test rising each ix hit =
      let live = AreLiveInTurn-rising s indexes rising (λ j here. hit_live s test j ((each j).0 here)) in
      let was = hit_left s indexes test live ix hit in
      was.0 ((each ix).1 was.1)
    where
      hit_live : (s : Store T) (test : T → Bool) (j : ℕ) → IsHit s test j → IsLive s j
      hit_live s test j (item, is, passed) = rw is refl

  pub get-removed_all : (s : Store T) (l : List ℕ) (j : ℕ) → (Contains l j → ⊥) → get (removed_all s l) j ≡ get s j
  get-removed_all s [] j other = refl
  get-removed_all s (x ∷ rest) j other =
      get-removed_all (removed s x) rest j (λ here. other (contains_tail x j rest here))
      ∙ get-removed_other s x j (λ same. other (subst (λ w. Contains (x ∷ rest) w) (sym same) (contains_head x rest)))

  pub removed_all-push : (s : Store T) (l : List ℕ) (j : ℕ) → removed_all s (l ++ j ∷ []) ≡ removed (removed_all s l) j
  removed_all-push s [] j = refl
  removed_all-push s (x ∷ rest) j = removed_all-push (removed s x) rest j

-- the next index, if there is one, is this or before it
abbrev pub IsAhead : Option ℕ → ℕ → Type 0
IsAhead None ix = ⊥
IsAhead (Some next) ix = next ≤ ix

-- of the indexes that were reported, so many were removed; this is the next one
pub record Taking {T : Type 0} (reported : ℕ → Type 0) (places : ℕ) (old : Store T) (back : List (Option (ℕ × T))) (left : Store T)
    (next : Option ℕ) (count : ℕ)
    : Type 0 where
  pub done : List ℕ
  pub counted : length done ≡ count
  pub rising : IsIncreasing done
  pub were_reported : (ix : ℕ) → Contains done ix → reported ix
  pub ahead : (ix : ℕ) → reported ix → Contains done ix ⊎ IsAhead next ix
  pub next_reported : (j : ℕ) → next ≡ Some j → reported j × ((ix : ℕ) → Contains done ix → ix < j)
  pub items : back ≡ padded places (map (index_with_item old) done)
  pub left_is : left ≡ removed_all old done

module _ {T : Type 0} (reported : ℕ → Type 0) (places : ℕ) (old : Store T) where
  pub ahead_first : (next : Option ℕ) → IsNextReported reported None next → (ix : ℕ) → reported ix → IsAhead next ix
  ahead_first None none ix here = none ix here tt
  ahead_first (Some j) first ix here = by_less (λ less. first.2 ix here tt less)
    where
      by_less : (ix < j → ⊥) → j ≤ ix
      by_less not = omega (arith, not)

  pub reported_first : (next : Option ℕ) → IsNextReported reported None next → (j : ℕ) → next ≡ Some j → reported j
  reported_first None none j is = absurd (cc)
  reported_first (Some k) first j is = let same : k ≡ j = cc in subst reported same first.0

  pub Taking-none :
      (back : List (Option (ℕ × T))) (next : Option ℕ)
      → IsNextReported reported None next
      → back ≡ padded places []
      → Taking reported places old back old next 0
  Taking-none back next first none = record {
    done = [];
    counted = refl;
    rising = tt;
    were_reported = λ ix here. absurd (contains_none ix here);
    ahead = λ ix here. inr (ahead_first next first ix here);
    next_reported = λ j is. (reported_first next first j is, λ ix here. absurd (contains_none ix here));
    items = none;
    left_is = refl;
  }

  -- the next one is none of those that were removed
  pub next_apart :
      (back : List (Option (ℕ × T))) (left : Store T) (j count : ℕ)
      → Taking reported places old back left (Some j) count
      → get left j ≡ get old j
  next_apart back left j count t =
      ap (λ s. get s j) t.left_is
      ∙ get-removed_all old t.done j (λ here. let less = (t.next_reported j refl).1 j here in omega (arith, less))

  pub next_live :
      (back : List (Option (ℕ × T))) (left : Store T) (j count : ℕ)
      → Taking reported places old back left (Some j) count
      → ((ix : ℕ) → reported ix → IsLive old ix)
      → IsLive left j
  next_live back left j count t live = rw (next_apart back left j count t) (live j (t.next_reported j refl).0)

  -- there is a place for it
  pub next_fits :
      (back : List (Option (ℕ × T))) (left : Store T) (j count : ℕ) (k : ℕ)
      → Taking reported places old back left (Some j) count
      → (l : List ℕ) × (length l ≤ k) × ((ix : ℕ) → reported ix → Contains l ix)
      → count < k
  next_fits back left j count k t (l, few, all) =
      let fits = rising_fits (t.done ++ j ∷ []) l (IsIncreasing-push t.done j t.rising (t.next_reported j refl).1) (λ ix here.
      elim (contains_push t.done j ix here) [
        | inl inside ↦ all ix (t.were_reported ix inside)
        | inr same ↦ all ix (subst reported same (t.next_reported j refl).0)
      ]) in
      omega (arith, fits, few, length_push t.done j, t.counted)

  pub place_vacant :
      (back : List (Option (ℕ × T))) (left : Store T) (next : Option ℕ) (count : ℕ)
      → Taking reported places old back left next count
      → count < places
      → slice_get back count ≡ Some None
  place_vacant back left next count t within =
      let same = length-map t.done (index_with_item old) ∙ t.counted in
      rw (t.items, ← same) (padded-vacant places (map (index_with_item old) t.done) (omega (arith, same, within)))

  pub places_left :
      (back : List (Option (ℕ × T))) (left : Store T) (next : Option ℕ) (count : ℕ)
      → Taking reported places old back left next count
      → length back ≡ places
  places_left back left next count t = ap length t.items ∙ length-padded places (map (index_with_item old) t.done)

  pub ahead_next :
      (j : ℕ) (next : Option ℕ)
      → IsNextReported reported (Some j) next
      → (ix : ℕ)
      → reported ix
      → j < ix
      → IsAhead next ix
  ahead_next j None none ix here past = none ix here past
  ahead_next j (Some k) first ix here past = by_less (λ less. first.2 ix here past less)
    where
      by_less : (ix < k → ⊥) → k ≤ ix
      by_less not = omega (arith, not)

  pub past_next :
      (j : ℕ) (next : Option ℕ)
      → IsNextReported reported (Some j) next
      → (k : ℕ)
      → next ≡ Some k
      → reported k × (j < k)
  past_next j None none k is = absurd (cc)
  past_next j (Some m) first k is = let same : m ≡ k = cc in subst (λ w. reported w × (j < w)) same (first.0, first.1)

  pub Taking-next :
      (back back_now : List (Option (ℕ × T))) (left left_now : Store T) (j count : ℕ) (next : Option ℕ) (item : T)
      → Taking reported places old back left (Some j) count
      → count < places
      → IsNextReported reported (Some j) next
      → get left j ≡ Some item
      → back_now ≡ slice_set back count (Some (j, item))
      → left_now ≡ removed left j
      → Taking reported places old back_now left_now next (count + 1)
  Taking-next back back_now left left_now j count next item t within following value put gone =
      let below = (t.next_reported j refl).1 in
      let same = length-map t.done (index_with_item old) ∙ t.counted in
      let was : get old j ≡ Some item = sym (next_apart back left j count t) ∙ value in
      let entry : Some (j, item) ≡ index_with_item old j = rw was refl in
      record {
        done = t.done ++ j ∷ [];
        counted = let e = length_push t.done j in omega (arith, e, t.counted);
        rising = IsIncreasing-push t.done j t.rising below;
        were_reported = λ ix here. elim (contains_push t.done j ix here) [
          | inl inside ↦ t.were_reported ix inside
          | inr is ↦ subst reported is (t.next_reported j refl).0
        ];
        ahead = λ ix here. elim (t.ahead ix here) [
          | inl inside ↦ inl (push_keeps t.done j ix inside)
          | inr after ↦ elim (cases_eq j ix) [
            | inl is ↦ inl (subst (λ w. Contains (t.done ++ j ∷ []) w) is (push_adds t.done j))
            | inr other ↦ inr (ahead_next j next following ix here (omega (arith, after, other)))
          ]
        ];
        next_reported = λ k is.
            let (here, past) = past_next j next following k is in (
              here,
              λ ix inside. elim (contains_push t.done j ix inside) [
                | inl before ↦ let less = below ix before in omega (arith, less, past)
                | inr e ↦ omega (arith, e, past)
              ],
            );
        items =
            put ∙ ap (λ l. slice_set l count (Some (j, item))) t.items
            ∙ ap (λ n. slice_set (padded places (map (index_with_item old) t.done)) n (Some (j, item))) (sym same)
            ∙ padded-push places (map (index_with_item old) t.done) (Some (j, item)) (omega (arith, same, within))
            ∙ ap (λ x. padded places (map (index_with_item old) t.done ++ x ∷ [])) entry
            ∙ ap (padded places) (sym (map-append (index_with_item old) t.done (j ∷ [])));
        left_is = gone ∙ ap (λ s. removed s j) t.left_is ∙ sym (removed_all-push old t.done j);
      }

  -- where there is no next one, all were removed
  pub TakesAll-done :
      (back : List (Option (ℕ × T))) (left : Store T) (count : ℕ)
      → Taking reported places old back left None count
      → count ≤ places
      → TakesAll reported places old back left
  TakesAll-done back left count t within = record {
    indexes = t.done;
    each = λ ix. (t.were_reported ix, λ here. elim (t.ahead ix here) [ inl inside ↦ inside | inr never ↦ absurd never ]);
    rising = t.rising;
    at_most = omega (arith, t.counted, within);
    items = t.items;
    left = t.left_is;
  }

  -- and where one was reported, one was removed
  pub some_done :
      (back : List (Option (ℕ × T))) (left : Store T) (count : ℕ)
      → Taking reported places old back left None count
      → (ix : ℕ) × reported ix
      → 1 ≤ count
  some_done back left count t (ix, here) = elim (t.ahead ix here) [
    | inl inside ↦ by_done t.done t.counted inside
    | inr never ↦ absurd never
  ]
    where
      by_done : (l : List ℕ) → length l ≡ count → Contains l ix → 1 ≤ count
      by_done [] is inside = absurd (contains_none ix inside)
      by_done (x ∷ rest) is inside = omega (arith, is)

-- the next one, where it is known
pub taking_at :
    {T : Type 0} {reported : ℕ → Type 0} {places : ℕ} {old : Store T} {back : List (Option (ℕ × T))} {left : Store T}
    {next is : Option ℕ} {count : ℕ}
    → next ≡ is
    → Taking reported places old back left next count
    → Taking reported places old back left is count
taking_at {reported = reported} {places = places} {old = old} {back = back} {left = left} {count = count} same t = subst (λ n. Taking reported places old back left n count) same t

pub no_next : (next : Option ℕ) → ((j : ℕ) → next ≡ Some j → ⊥) → next ≡ None
no_next None never = refl
no_next (Some j) never = absurd (never j refl)

-- memory that stayed
abbrev memory_of : ℕ → ℕ → ℕ → MapMemory
memory_of slots capacity cells = record { slots = slots; capacity = capacity; cells = cells }

pub memory_same : (a b c x y z : ℕ) → x ≡ a → y ≡ b → z ≡ c → memory_of x y z ≡ memory_of a b c
memory_same a b c x y z one two three = rw (one, two, three) refl

module _ {T : Type 0} (alike : T → T → Bool) (most : ℕ → ℕ) where
  pub MakesRoom-same : (old : MapState T) (new : MapMemory) → new ≡ old.memory → MakesRoom most old new
  MakesRoom-same old new same = rw same (record {
    had_room = λ _. refl;
    slots_at_least = omega arith;
    capacity_at_least = omega arith;
    few_slots = omega arith;
    few_cells = omega arith;
  })

  -- an insert that overwrites, where no item shares a key
  pub OverwritesAt-apart :
      (places : ℕ) (old new : MapState T) (item : T) (ix : ℕ) (back : List (Option (ℕ × T)))
      → InsertsAt alike most old item ix new
      → back ≡ padded places []
      → OverwritesAt alike most places old item ix back new
  OverwritesAt-apart places old new item ix back did none = record {
    conflicts = [];
    are_conflicts = record { each = λ j. (λ here. absurd (contains_none j here), λ hit. absurd (did.no_conflict j hit)); rising = tt };
    at_most = omega arith;
    not_full = λ _. did.not_full;
    items = none;
    index = did.index;
    stored = did.stored;
    memory = did.memory;
    same_memory = λ some. absurd (some did.no_conflict);
  }

  -- and where some do, which were removed
  module _
      (reported : ℕ → Type 0) (s : Store T) (item : T) (hits : (ix : ℕ) → reported ix ↔ IsHit s (alike item) ix)
      (places : ℕ) (back : List (Option (ℕ × T))) (left : Store T) (took : TakesAll reported places s back left)
    where
      removed_hit : (ix : ℕ) → Contains took.indexes ix ↔ IsHit s (alike item) ix
      removed_hit ix = (λ here. (hits ix).0 ((took.each ix).0 here), λ hit. (took.each ix).1 ((hits ix).1 hit))

      pub HasNoHit-taken : HasNoHit left (alike item)
      HasNoHit-taken = rw took.left (HasNoHit-removed_all s took.indexes (alike item) took.rising removed_hit)

      pub OverwritesAt-done :
          (old new : MapState T) (ix : ℕ)
          → old.store ≡ s
          → (j : ℕ) × reported j
          → ix ≡ next_index left
          → new.store ≡ inserted left item
          → new.memory ≡ old.memory
          → OverwritesAt alike most places old item ix back new
      OverwritesAt-done old new ix is some index stored same = record {
        conflicts = took.indexes;
        are_conflicts = rw is (record { each = removed_hit; rising = took.rising });
        at_most = took.at_most;
        not_full = λ none full. none some.0 (rw is ((hits some.0).0 some.1));
        items = rw is took.items;
        index = rw (is, ← took.left) index;
        stored = rw (is, ← took.left) stored;
        memory = MakesRoom-same old new.memory same;
        same_memory = λ _. same;
      }
