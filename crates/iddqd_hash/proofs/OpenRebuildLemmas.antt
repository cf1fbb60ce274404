-- The steps by which a table with open addressing is rebuilt in the cells that it has.
use Rattle.std.proofs.Common.{ne_eqb, true, false, ltb, ltb-true, ltb-false, inl, inr, ◌≡◌, ◌≢◌, ◌∙◌, ℕ, suc, ◌+◌, ◌<◌, ◌≤◌, List, [], ◌∷◌, Option, Some, None, IsSome, length, set, cond, slice_index, count_by, refl, sym, ap, subst, arith}
use Rattle.std.proofs.lemmas.Bool.{cases_eq, lt-ltb, le-ltb}
use Rattle.std.proofs.lemmas.List.{length-set, set-set, get_or-set_same, get_or-set_other, get_or_past}
use Rattle.std.proofs.lemmas.List.Sums.{sum_by-set}
use Rattle.std.proofs.lemmas.List.Sorted.{IsPermutation-trans, IsPermutation-cons, IsPermutation-middle, length_permutation}
use Rattle.std.specs.List.Sorted.{IsPermutation}
use Rattle.iddqd_hash.specs.OpenTable.{tag_of, has_pair, limit_of, is_used, slot_at, pairs, Suits, HasEmpty, IsProbed}
use Rattle.iddqd_hash.specs.OpenRebuild.{pending, is_pending, IsPastFull, NoNewPending, SuitsOrPending, IsPartlyPlaced}
use Rattle.iddqd_hash.proofs.OpenPastFullLemmas.{IsReached-past_full, IsPastFull-kept}
use Rattle.iddqd_hash.proofs.OpenSlotLemmas.{pairs-put, pairs-taken, some_inside, used_count, used_one, used-cons}
use Rattle.iddqd_hash.proofs.OpenTableLemmas.{some_empty}

-- 1 if a cell is pending, else 0
abbrev pub pending_count : ℕ → ℕ
pending_count tag = cond (is_pending tag) 1 0

-- a pair that is placed in a pending cell leaves one pending cell fewer
pub fewer_pending :
    (tags : List ℕ) (place hash : ℕ)
    → place < length tags
    → slice_index tags place ≡ pending
    → count_by is_pending (set tags place (tag_of hash)) < count_by is_pending tags
fewer_pending tags place hash inside is =
    let counts : count_by is_pending (set tags place (tag_of hash)) + pending_count (slice_index tags place) ≡ count_by is_pending tags + pending_count (tag_of hash) =
    sum_by-set pending_count tags place (tag_of hash) 0 inside in
    let was : pending_count (slice_index tags place) ≡ 1 = ap pending_count is in
    let now : pending_count (tag_of hash) ≡ 0 = placed_count (tag_of hash) (omega arith) in
    omega arith
  where
    placed_count : (tag : ℕ) → 128 ≤ tag → pending_count tag ≡ 0
    placed_count tag full = ap (λ b. cond {A = ℕ} b 1 0) (ne_eqb tag pending (λ same. absurd (omega arith)))

-- a cell that isn't placed is set to another tag
stays_full :
    (tags : List ℕ) (place tag k : ℕ)
    → slice_index tags place < 128
    → 128 ≤ slice_index tags k
    → 128 ≤ slice_index (set tags place tag) k
stays_full tags place tag k free full =
    let other : k ≢ place =
    λ same. let is : slice_index tags k ≡ slice_index tags place = ap (slice_index tags) same in omega arith in
    rw (get_or-set_other tags place k tag 0 other) full

pub NoNewPending-set :
    (old tags : List ℕ) (place tag : ℕ)
    → place < length tags
    → tag ≢ pending
    → NoNewPending old tags
    → NoNewPending old (set tags place tag)
NoNewPending-set old tags place tag inside other none k is =
    elim (cases_eq k place) [
      | inl same ↦ absurd (other (sym (get_or-set_same tags place tag 0 inside) ∙ ap (slice_index (set tags place tag)) (sym same) ∙ is))
      | inr else ↦ none k (sym (get_or-set_other tags place k tag 0 else) ∙ is)
    ]

module _ {T : Type 0} where
  some_of : (o : Option (ℕ × T)) (pair : ℕ × T) → o ≡ Some pair → IsSome o
  some_of o pair is = subst (λ (o : Option (ℕ × T)). IsSome o) (sym is) refl

  pub pending_full : (tag : ℕ) (slot : Option (ℕ × T)) → SuitsOrPending tag slot → tag ≡ pending → IsSome slot
  pending_full tag None suits is = absurd (omega arith)
  pending_full tag (Some pair) suits is = refl

  pub free_none : (tag : ℕ) (slot : Option (ℕ × T)) → SuitsOrPending tag slot → tag < 128 → tag ≢ pending → slot ≡ None
  free_none tag None suits small other = refl
  free_none tag (Some pair) suits small other = elim suits [ inl is ↦ absurd (other is) | inr is ↦ absurd (omega arith) ]

  -- the cells that aren't empty are those with a pair
  counted :
      (tags : List ℕ) (slots : List (Option (ℕ × T)))
      → length slots ≡ length tags
      → ((place : ℕ) → place < length tags → SuitsOrPending (slice_index tags place) (slot_at slots place))
      → count_by is_used tags ≡ length (pairs slots)
  counted [] [] same suited = refl
  counted [] (slot ∷ slots) same suited = absurd (omega arith)
  counted (tag ∷ tags) [] same suited = absurd (omega arith)
  counted (tag ∷ tags) (slot ∷ slots) same suited =
      used-cons tag tags
      ∙ by_slot slot (suited 0 (omega arith)) (counted tags slots (omega arith) (λ place below. suited (suc place) (omega arith)))
    where
      by_slot :
          (slot : Option (ℕ × T))
          → SuitsOrPending tag slot
          → count_by is_used tags ≡ length (pairs slots)
          → used_count tag + count_by is_used tags ≡ length (pairs (slot ∷ slots))
      by_slot None is rest = let none : used_count tag ≡ 0 = ap used_count is in omega (arith, rest)
      by_slot (Some pair) is rest =
          let some : 0 < tag = elim is [ inl one ↦ omega arith | inr full ↦ omega arith ] in
          let one : used_count tag ≡ 1 = used_one tag some in
          omega (arith, rest)

  pub IsPartlyPlaced-counted :
      (tags : List ℕ) (slots : List (Option (ℕ × T)))
      → IsPartlyPlaced tags slots
      → count_by is_used tags ≡ length (pairs slots)
  IsPartlyPlaced-counted tags slots state = counted tags slots state.same_length state.suited

  pub IsPartlyPlaced-start :
      (tags now : List ℕ) (slots : List (Option (ℕ × T)))
      → IsProbed tags slots
      → length now ≡ length tags
      → ((k : ℕ) → 128 ≤ slice_index tags k → slice_index now k ≡ pending)
      → ((k : ℕ) → slice_index tags k < 128 → slice_index now k ≡ 0)
      → IsPartlyPlaced now slots
  IsPartlyPlaced-start tags now slots probed same full others =
      record {
        same_length = probed.same_length ∙ sym same;
        suited = λ place below. by_slot place (slot_at slots place) (probed.suited place (omega arith));
        placed = λ place pair is high.
            let suits : Suits (slice_index tags place) (Some pair) =
            subst (λ o. Suits (slice_index tags place) o) is (probed.suited place (omega (arith, inside place pair is))) in
            absurd (let now-is : slice_index now place ≡ pending = full place (omega arith) in omega arith);
      }
    where
      inside : (place : ℕ) (pair : ℕ × T) → slot_at slots place ≡ Some pair → place < length tags
      inside place pair is = omega (arith, some_inside slots place (some_of _ pair is), probed.same_length)

      by_slot :
          (place : ℕ) (slot : Option (ℕ × T))
          → Suits (slice_index tags place) slot
          → SuitsOrPending (slice_index now place) slot
      by_slot place None suits = others place (omega arith)
      by_slot place (Some pair) suits = inl (full place (omega arith))

  -- the tags at the start of a rebuild say of each cell whether it has a pair, as they did before
  pub reset_keeps :
      (tags now : List ℕ) (slots : List (Option (ℕ × T)))
      → IsProbed tags slots
      → ((k : ℕ) → 128 ≤ slice_index tags k → slice_index now k ≡ pending)
      → ((k : ℕ) → slice_index tags k < 128 → slice_index now k ≡ 0)
      → (k : ℕ)
      → has_pair (slice_index now k) ≡ has_pair (slice_index tags k)
  reset_keeps tags now slots probed full others k =
      elim (ltb (slice_index tags k) 128) as (λ b. ltb (slice_index tags k) 128 ≡ b → has_pair (slice_index now k) ≡ has_pair (slice_index tags k)) [
        | true ↦ λ is. let small =
            ltb-true _ _ is in ap has_pair (others k small) ∙ sym (le-ltb 1 (slice_index tags k) (free small))
        | false ↦ λ is. let high =
            ltb-false _ _ is in ap has_pair (full k high) ∙ sym (lt-ltb 1 (slice_index tags k) (omega arith))
      ] refl
    where
      by_slot : (tag : ℕ) (slot : Option (ℕ × T)) → Suits tag slot → tag < 128 → tag ≤ 1
      by_slot tag None suits small = suits
      by_slot tag (Some pair) suits small = absurd (omega arith)

      free : slice_index tags k < 128 → slice_index tags k ≤ 1
      free small =
          elim (ltb k (length tags)) as (λ b. ltb k (length tags) ≡ b → slice_index tags k ≤ 1) [
            | true ↦ λ is. by_slot (slice_index tags k) (slot_at slots k) (probed.suited k (ltb-true _ _ is)) small
            | false ↦ λ is. omega (arith, get_or_past tags k 0 (ltb-false _ _ is))
          ] refl

  pub IsProbed-rebuilt :
      (tags : List ℕ) (slots : List (Option (ℕ × T))) (at : ℕ)
      → IsPartlyPlaced tags slots
      → length tags ≤ at
      → ((k : ℕ) → k < at → slice_index tags k ≢ pending)
      → IsProbed tags slots
  IsProbed-rebuilt tags slots at state all none =
      record {
        same_length = state.same_length;
        suited = λ place below. by_slot (slice_index tags place) (slot_at slots place) (none place (omega arith)) (state.suited place below);
        reached = λ place pair is. IsReached-past_full tags pair.0 place (state.placed place pair is (high place pair is));
      }
    where
      by_slot : (tag : ℕ) (slot : Option (ℕ × T)) → tag ≢ pending → SuitsOrPending tag slot → Suits tag slot
      by_slot tag None other suits = omega arith
      by_slot tag (Some pair) other suits = elim suits [ inl is ↦ absurd (other is) | inr is ↦ is ]

      high : (place : ℕ) (pair : ℕ × T) → slot_at slots place ≡ Some pair → 128 ≤ slice_index tags place
      high place pair is =
          let below : place < length tags =
          omega (arith, some_inside slots place (some_of _ pair is), state.same_length) in
          let suits : Suits (slice_index tags place) (Some pair) =
          subst (λ o. Suits (slice_index tags place) o) is (by_slot (slice_index tags place) (slot_at slots place) (none place (omega arith)) (state.suited place below)) in
          omega arith

  module _
      (tags : List ℕ) (slots : List (Option (ℕ × T))) (state : IsPartlyPlaced tags slots) (place : ℕ)
      (inside : place < length tags) (free : slice_index tags place < 128)
    where
      within : place < length slots
      within = omega (arith, state.same_length)

      suited-set :
          (tag : ℕ) (slot : Option (ℕ × T))
          → SuitsOrPending tag slot
          → (k : ℕ)
          → k < length (set tags place tag)
          → SuitsOrPending (slice_index (set tags place tag) k) (slot_at (set slots place slot) k)
      suited-set tag slot suits k below =
          elim (cases_eq k place) [
            | inl same ↦ rw (same, get_or-set_same tags place tag 0 inside, get_or-set_same slots place slot None within) suits
            | inr other ↦ rw (get_or-set_other tags place k tag 0 other, get_or-set_other slots place k slot None other) (state.suited k (omega (arith, length-set tags place tag)))
          ]

      kept : (tag from at : ℕ) → IsPastFull tags from at → IsPastFull (set tags place tag) from at
      kept tag from at =
          IsPastFull-kept tags (set tags place tag) from at (length-set tags place tag) (λ k. stays_full tags place tag k free)

      -- what stands in another place stays placed
      placed_other :
          (tag : ℕ) (slot : Option (ℕ × T)) (at : ℕ) (pair : ℕ × T)
          → at ≢ place
          → slot_at (set slots place slot) at ≡ Some pair
          → 128 ≤ slice_index (set tags place tag) at
          → IsPastFull (set tags place tag) pair.0 at
      placed_other tag slot at pair other is high =
          kept tag pair.0 at (state.placed at pair (sym (get_or-set_other slots place at slot None other) ∙ is) (subst (λ n. 128 ≤ n) (get_or-set_other tags place at tag 0 other) high))

      -- a pair that is put into a cell with no placed pair
      pub IsPartlyPlaced-put :
          (hash : ℕ) (value : T)
          → IsPastFull tags hash place
          → IsPartlyPlaced (set tags place (tag_of hash)) (set slots place (Some (hash, value)))
      IsPartlyPlaced-put hash value walk =
          record {
            same_length =
                length-set slots place (Some (hash, value)) ∙ state.same_length
                ∙ sym (length-set tags place (tag_of hash));
            suited = suited-set (tag_of hash) (Some (hash, value)) (inr refl);
            placed = λ at pair is high.
                elim (cases_eq at place) [
                  | inl same ↦
                      let both : Some (hash, value) ≡ Some pair =
                      sym (get_or-set_same slots place (Some (hash, value)) None within)
                      ∙ ap (slot_at (set slots place (Some (hash, value)))) (sym same) ∙ is in
                      let here : (hash, value) ≡ pair = cc in
                      subst (λ (p : ℕ × T). IsPastFull (set tags place (tag_of hash)) p.0 at) here (subst (λ n. IsPastFull (set tags place (tag_of hash)) hash n) (sym same) (kept (tag_of hash) hash place walk))
                  | inr other ↦ placed_other (tag_of hash) (Some (hash, value)) at pair other is high
                ];
          }

      -- a pair that is taken out before it is placed
      pub IsPartlyPlaced-lifted : IsPartlyPlaced (set tags place 0) (set slots place None)
      IsPartlyPlaced-lifted =
          record {
            same_length = length-set slots place None ∙ state.same_length ∙ sym (length-set tags place 0);
            suited = suited-set 0 None refl;
            placed = λ at pair is high.
                elim (cases_eq at place) [
                  | inl same ↦ absurd (let zero_here : slice_index (set tags place 0) at ≡ 0 = rw same (get_or-set_same tags place 0 0 inside) in omega arith)
                  | inr other ↦ placed_other 0 None at pair other is high
                ];
          }

  -- one pair is exchanged for another
  pairs-exchanged :
      (slots : List (Option (ℕ × T))) (place : ℕ) (pair was : ℕ × T)
      → place < length slots
      → slot_at slots place ≡ Some was
      → IsPermutation (pair ∷ pairs slots) (was ∷ pairs (set slots place (Some pair)))
  pairs-exchanged slots place pair was inside is =
      let empty : length (set slots place None) ≡ length slots = length-set slots place None in
      let out : IsPermutation (pair ∷ pairs slots) (pair ∷ was ∷ pairs (set slots place None)) =
      IsPermutation-cons pair _ _ (pairs-taken slots place was inside is) in
      let turned : IsPermutation (pair ∷ was ∷ pairs (set slots place None)) (was ∷ pair ∷ pairs (set slots place None)) =
      IsPermutation-middle (pair ∷ []) was (pairs (set slots place None)) in
      let put : IsPermutation (pair ∷ pairs (set slots place None)) (pairs (set (set slots place None) place (Some pair))) =
      pairs-put (set slots place None) place pair (omega arith) (get_or-set_same slots place None None inside) in
      let both : IsPermutation (pair ∷ pairs (set slots place None)) (pairs (set slots place (Some pair))) =
      subst (λ xs. IsPermutation (pair ∷ pairs (set slots place None)) (pairs xs)) (set-set slots place None (Some pair)) put in
      IsPermutation-trans _ _ _ out (IsPermutation-trans _ _ _ turned (IsPermutation-cons was _ _ both))

  -- one pair was taken out of the slots and isn't put back yet; the cell from which the first one came has none to be
  -- placed
  pub record Carrying
      (old_tags : List ℕ) (old : List (Option (ℕ × T))) (at hash : ℕ) (value : T) (tags : List ℕ)
      (slots : List (Option (ℕ × T)))
      : Type 0 where
    pub partly_placed : IsPartlyPlaced tags slots
    pub moved : IsPermutation (pairs old) ((hash, value) ∷ pairs slots)
    pub not_pending : slice_index tags at ≢ pending
    pub none_new : NoNewPending old_tags tags

  pub Carrying-start :
      (tags : List ℕ) (slots : List (Option (ℕ × T))) (at : ℕ) (pair : ℕ × T)
      → IsPartlyPlaced tags slots
      → at < length tags
      → slice_index tags at ≡ pending
      → slot_at slots at ≡ Some pair
      → Carrying tags slots at pair.0 pair.1 (set tags at 0) (set slots at None)
  Carrying-start tags slots at pair state inside is here =
      record {
        partly_placed = IsPartlyPlaced-lifted tags slots state at inside (omega arith);
        moved = pairs-taken slots at pair (omega (arith, state.same_length)) here;
        not_pending = λ one. let zero_here : slice_index (set tags at 0) at ≡ 0 = get_or-set_same tags at 0 0 inside in absurd (omega arith);
        none_new = NoNewPending-set tags tags at 0 inside (λ none. absurd (omega arith)) (λ k is. is);
      }

  module _
      (old_tags : List ℕ) (old : List (Option (ℕ × T))) (at hash : ℕ) (value : T) (tags : List ℕ)
      (slots : List (Option (ℕ × T))) (state : Carrying old_tags old at hash value tags slots)
    where
      -- an empty cell is there as long as not more pairs are there than fit
      pub Carrying-room : length (pairs old) ≤ limit_of (length tags) → HasEmpty tags
      Carrying-room fits =
          some_empty tags (omega (arith, IsPartlyPlaced-counted tags slots state.partly_placed, length_permutation _ _ state.moved))

      not_pending-set :
          (place tag : ℕ)
          → place < length tags
          → tag ≢ pending
          → slice_index (set tags place tag) at ≢ pending
      not_pending-set place tag inside other =
          NoNewPending-at (NoNewPending-set tags tags place tag inside other (λ k is. is))
        where
          NoNewPending-at : NoNewPending tags (set tags place tag) → slice_index (set tags place tag) at ≢ pending
          NoNewPending-at none is = state.not_pending (none at is)

      pub Carrying-next :
          (place : ℕ) (was : ℕ × T)
          → place < length tags
          → slice_index tags place ≡ pending
          → IsPastFull tags hash place
          → slot_at slots place ≡ Some was
          → Carrying old_tags old at was.0 was.1 (set tags place (tag_of hash)) (set slots place (Some (hash, value)))
      Carrying-next place was inside is walk here =
          let other : tag_of hash ≢ pending = λ same. absurd (omega arith) in
          record {
            partly_placed =
                IsPartlyPlaced-put tags slots state.partly_placed place inside (omega arith) hash value walk;
            moved =
                IsPermutation-trans _ _ _ state.moved (pairs-exchanged slots place (hash, value) was (omega (arith, state.partly_placed.same_length)) here);
            not_pending = not_pending-set place (tag_of hash) inside other;
            none_new = NoNewPending-set old_tags tags place (tag_of hash) inside other state.none_new;
          }

      module _
          (place : ℕ) (inside : place < length tags) (free : slice_index tags place < 128)
          (empty : slice_index tags place ≢ pending) (walk : IsPastFull tags hash place)
        where
          pub Carrying-free : slot_at slots place ≡ None
          Carrying-free =
              free_none (slice_index tags place) (slot_at slots place) (state.partly_placed.suited place inside) free empty

          other_tag : tag_of hash ≢ pending
          other_tag same = absurd (omega arith)

          pub IsPartlyPlaced-end : IsPartlyPlaced (set tags place (tag_of hash)) (set slots place (Some (hash, value)))
          IsPartlyPlaced-end = IsPartlyPlaced-put tags slots state.partly_placed place inside free hash value walk

          pub moved-end : IsPermutation (pairs old) (pairs (set slots place (Some (hash, value))))
          moved-end =
              IsPermutation-trans _ _ _ state.moved (pairs-put slots place (hash, value) (omega (arith, state.partly_placed.same_length)) Carrying-free)

          pub not_pending-end : slice_index (set tags place (tag_of hash)) at ≢ pending
          not_pending-end = not_pending-set place (tag_of hash) inside other_tag

          pub none_new-end : NoNewPending old_tags (set tags place (tag_of hash))
          none_new-end = NoNewPending-set old_tags tags place (tag_of hash) inside other_tag state.none_new

-- the tags before a place belong to pairs to be placed, or to empty cells; those from there on are as they were
pub record TagsReset (old tags : List ℕ) (at : ℕ) : Type 0 where
  pub full : (k : ℕ) → k < at → 128 ≤ slice_index old k → slice_index tags k ≡ pending
  pub others : (k : ℕ) → k < at → slice_index old k < 128 → slice_index tags k ≡ 0
  pub later : (k : ℕ) → at ≤ k → slice_index tags k ≡ slice_index old k

pub TagsReset-start : (tags : List ℕ) → TagsReset tags tags 0
TagsReset-start tags = record { full = λ k below. absurd (omega arith); others = λ k below. absurd (omega arith); later = λ k past. refl }

pub TagsReset-more :
    (old tags : List ℕ) (at tag : ℕ)
    → at < length tags
    → TagsReset old tags at
    → (128 ≤ slice_index tags at → tag ≡ pending)
    → (slice_index tags at < 128 → tag ≡ 0)
    → TagsReset old (set tags at tag) (at + 1)
TagsReset-more old tags at tag inside state full others =
    let here : slice_index (set tags at tag) at ≡ tag = get_or-set_same tags at tag 0 inside in
    let was : slice_index tags at ≡ slice_index old at = state.later at (omega arith) in
    let before : (k : ℕ) → k ≢ at → slice_index (set tags at tag) k ≡ slice_index tags k =
    λ k other. get_or-set_other tags at k tag 0 other in
    record {
      full = λ k below high.
          elim (cases_eq k at) [
            | inl same ↦ ap (slice_index (set tags at tag)) same ∙ here ∙ full (omega (arith, ap (slice_index old) same))
            | inr other ↦ before k other ∙ state.full k (omega arith) high
          ];
      others = λ k below low.
          elim (cases_eq k at) [
            | inl same ↦ ap (slice_index (set tags at tag)) same ∙ here ∙ others (omega (arith, ap (slice_index old) same))
            | inr other ↦ before k other ∙ state.others k (omega arith) low
          ];
      later = λ k past. before k (omega arith) ∙ state.later k (omega arith);
    }
