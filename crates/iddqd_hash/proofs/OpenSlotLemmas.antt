-- How each change of a table with open addressing keeps what its look-ups stand on.
use Rattle.std.proofs.Common.{ne_eqb, not, inl, inr, ◌⊎◌, true, false, cond, ◌≡◌, ◌∙◌, ℕ, zero, suc, ◌+◌, ◌%◌, ◌<◌, ◌≤◌, List, [], ◌∷◌, ◌++◌, Option, Some, None, IsSome, length, take, drop, set, slice_index, replicate, count_by, refl, sym, ap, subst, arith, add-one}
use Rattle.std.proofs.lemmas.Bool.{cases_eq}
use Rattle.std.proofs.lemmas.List.{length-set, length-map, length-replicate, get_or-set_same, get_or-set_other, get_or_past, set_split, take-append-drop, drop_more}
use Rattle.std.proofs.lemmas.List.Elements.{filter_map-append}
use Rattle.std.proofs.lemmas.List.Folds.{sum_by-replicate}
use Rattle.std.proofs.lemmas.List.Sums.{sum_by-set, sum_by-cons}
use Rattle.std.proofs.lemmas.List.Sorted.{IsPermutation-middle, IsPermutation-sym, length_permutation}
use Rattle.std.specs.List.Sorted.{IsPermutation}
use Rattle.std.specs.Option.{option_map}
use Rattle.iddqd_hash.specs.OpenTable.{tag_of, is_used, slot_at, hashes_of, pairs, Suits, IsReached, IsProbed}

-- a place of more used cells is reached as before
IsReached-kept :
    (tags now : List ℕ) (hash place : ℕ)
    → length now ≡ length tags
    → ((k : ℕ) → 0 < slice_index tags k → 0 < slice_index now k)
    → IsReached tags hash place
    → IsReached now hash place
IsReached-kept tags now hash place same stays reached =
    record {
      steps = reached.steps;
      is_there = ap (λ n. (hash + reached.steps) % n) same ∙ reached.is_there;
      passed = λ k below. subst (λ n. 0 < slice_index now ((hash + k) % n)) (sym same) (stays _ (reached.passed k below));
    }

set_used : (tags : List ℕ) (place tag k : ℕ) → 0 < tag → 0 < slice_index tags k → 0 < slice_index (set tags place tag) k
set_used tags place tag k some used =
    elim (cases_eq k place) [
      | inl same ↦
          elim (cases_inside place tags) [
            | inl inside ↦ rw (same, get_or-set_same tags place tag 0 inside) some
            | inr past ↦ absurd (let none : slice_index tags k ≡ 0 = rw same (get_or_past tags place 0 past) in omega arith)
          ]
      | inr other ↦ rw (get_or-set_other tags place k tag 0 other) used
    ]
  where
    cases_inside : (k : ℕ) (xs : List ℕ) → (k < length xs) ⊎ (length xs ≤ k)
    cases_inside k [] = inr (omega arith)
    cases_inside zero (x ∷ xs) = inl (omega arith)
    cases_inside (suc k) (x ∷ xs) = elim (cases_inside k xs) [ inl less ↦ inl (omega arith) | inr past ↦ inr (omega arith) ]

pub zero_everywhere : (n at : ℕ) → slice_index (replicate n 0) at ≡ 0
zero_everywhere zero at = refl
zero_everywhere (suc n) zero = refl
zero_everywhere (suc n) (suc at) = zero_everywhere n at

module _ {T : Type 0} where
  pub pairs-push :
      (slots : List (Option (ℕ × T))) (slot : Option (ℕ × T))
      → pairs (slots ++ slot ∷ []) ≡ pairs slots ++ pairs (slot ∷ [])
  pairs-push slots slot = filter_map-append (λ (slot : Option (ℕ × T)). slot) slots (slot ∷ [])

  pairs_at :
      (slots : List (Option (ℕ × T))) (place : ℕ)
      → place < length slots
      → pairs slots ≡ pairs (take place slots) ++ (pairs (slot_at slots place ∷ []) ++ pairs (drop (place + 1) slots))
  pairs_at slots place inside =
      ap pairs (sym (take-append-drop place slots) ∙ ap (λ xs. take place slots ++ xs) (drop_more slots place None inside))
      ∙ filter_map-append (λ (slot : Option (ℕ × T)). slot) (take place slots) (slot_at slots place ∷ drop (place + 1) slots)
      ∙ ap (λ xs. pairs (take place slots) ++ xs) (filter_map-append (λ (slot : Option (ℕ × T)). slot) (slot_at slots place ∷ []) (drop (place + 1) slots))

  pairs-set :
      (slots : List (Option (ℕ × T))) (place : ℕ) (slot : Option (ℕ × T))
      → place < length slots
      → pairs (set slots place slot) ≡ pairs (take place slots) ++ (pairs (slot ∷ []) ++ pairs (drop (place + 1) slots))
  pairs-set slots place slot inside =
      ap pairs (set_split slots place slot inside)
      ∙ filter_map-append (λ (slot : Option (ℕ × T)). slot) (take place slots) (slot ∷ drop (suc place) slots)
      ∙ ap (λ xs. pairs (take place slots) ++ xs) (filter_map-append (λ (slot : Option (ℕ × T)). slot) (slot ∷ []) (drop (suc place) slots))
      ∙ ap (λ n. pairs (take place slots) ++ (pairs (slot ∷ []) ++ pairs (drop n slots))) (sym (add-one place))

  -- a pair that was put into a free slot, and no other
  pub pairs-put :
      (slots : List (Option (ℕ × T))) (place : ℕ) (pair : ℕ × T)
      → place < length slots
      → slot_at slots place ≡ None
      → IsPermutation (pair ∷ pairs slots) (pairs (set slots place (Some pair)))
  pairs-put slots place pair inside free =
      let before : pairs slots ≡ pairs (take place slots) ++ pairs (drop (place + 1) slots) =
      pairs_at slots place inside
      ∙ ap (λ s. pairs (take place slots) ++ (pairs (s ∷ []) ++ pairs (drop (place + 1) slots))) free in
      rw (before, pairs-set slots place (Some pair) inside) (IsPermutation-sym _ _ (IsPermutation-middle (pairs (take place slots)) pair (pairs (drop (place + 1) slots))))

  -- a pair that was taken out of its slot, and no other
  pub pairs-taken :
      (slots : List (Option (ℕ × T))) (place : ℕ) (pair : ℕ × T)
      → place < length slots
      → slot_at slots place ≡ Some pair
      → IsPermutation (pairs slots) (pair ∷ pairs (set slots place None))
  pairs-taken slots place pair inside full =
      let before : pairs slots ≡ pairs (take place slots) ++ pair ∷ pairs (drop (place + 1) slots) =
      pairs_at slots place inside
      ∙ ap (λ s. pairs (take place slots) ++ (pairs (s ∷ []) ++ pairs (drop (place + 1) slots))) full in
      rw (before, pairs-set slots place None inside) (IsPermutation-middle (pairs (take place slots)) pair (pairs (drop (place + 1) slots)))

  pub length-put :
      (slots : List (Option (ℕ × T))) (place : ℕ) (pair : ℕ × T)
      → place < length slots
      → slot_at slots place ≡ None
      → length (pairs (set slots place (Some pair))) ≡ length (pairs slots) + 1
  length-put slots place pair inside free =
      length_permutation _ _ (pairs-put slots place pair inside free) ∙ omega arith

  pub length-taken :
      (slots : List (Option (ℕ × T))) (place : ℕ) (pair : ℕ × T)
      → place < length slots
      → slot_at slots place ≡ Some pair
      → length (pairs (set slots place None)) + 1 ≡ length (pairs slots)
  length-taken slots place pair inside full =
      let same = length_permutation _ _ (pairs-taken slots place pair inside full) in omega arith

  -- there is no more pair than slots
  pub length_pairs : (slots : List (Option (ℕ × T))) → length (pairs slots) ≤ length slots
  length_pairs [] = omega arith
  length_pairs (None ∷ slots) = omega (arith, length_pairs slots)
  length_pairs (Some pair ∷ slots) = omega (arith, length_pairs slots)

  pub some_inside : (slots : List (Option (ℕ × T))) (place : ℕ) → IsSome (slot_at slots place) → place < length slots
  some_inside [] place some = absurd (let never : false ≡ true = some in cc)
  some_inside (slot ∷ slots) zero some = omega arith
  some_inside (slot ∷ slots) (suc place) some = omega (arith, some_inside slots place some)

  pub some_is : (o : Option (ℕ × T)) → IsSome o → (pair : ℕ × T) × (o ≡ Some pair)
  some_is None some = absurd (let never : false ≡ true = some in cc)
  some_is (Some pair) some = (pair, refl)

  -- if the tag is less than 128, there is no pair
  pub free_slot : (tag : ℕ) (slot : Option (ℕ × T)) → Suits tag slot → tag < 128 → slot ≡ None
  free_slot tag None suits small = refl
  free_slot tag (Some pair) suits small = absurd (omega arith)

  -- otherwise there is one
  pub full_slot : (tag : ℕ) (slot : Option (ℕ × T)) → Suits tag slot → 128 ≤ tag → IsSome slot
  full_slot tag None suits full = absurd (omega arith)
  full_slot tag (Some pair) suits full = refl

  module _
      (tags : List ℕ) (slots : List (Option (ℕ × T))) (probed : IsProbed tags slots) (place : ℕ)
      (inside : place < length tags)
    where
      suited-set :
          (tag : ℕ) (slot : Option (ℕ × T))
          → Suits tag slot
          → (k : ℕ)
          → k < length (set tags place tag)
          → Suits (slice_index (set tags place tag) k) (slot_at (set slots place slot) k)
      suited-set tag slot suits k below =
          elim (cases_eq k place) [
            | inl same ↦ rw (same, get_or-set_same tags place tag 0 inside, get_or-set_same slots place slot None (omega (arith, probed.same_length))) suits
            | inr other ↦ rw (get_or-set_other tags place k tag 0 other, get_or-set_other slots place k slot None other) (probed.suited k (omega (arith, length-set tags place tag)))
          ]

      same_lengths : (tag : ℕ) (slot : Option (ℕ × T)) → length (set slots place slot) ≡ length (set tags place tag)
      same_lengths tag slot = length-set slots place slot ∙ probed.same_length ∙ sym (length-set tags place tag)

      reached-set : (tag at : ℕ) (hash : ℕ) → 0 < tag → IsReached tags hash at → IsReached (set tags place tag) hash at
      reached-set tag at hash some =
          IsReached-kept tags (set tags place tag) hash at (length-set tags place tag) (λ k used. set_used tags place tag k some used)

      pub IsProbed-put :
          (hash : ℕ) (value : T)
          → IsReached tags hash place
          → IsProbed (set tags place (tag_of hash)) (set slots place (Some (hash, value)))
      IsProbed-put hash value reached =
          record {
            same_length = same_lengths (tag_of hash) (Some (hash, value));
            suited = suited-set (tag_of hash) (Some (hash, value)) refl;
            reached = λ at pair is. reached-set (tag_of hash) at pair.0 (omega arith) (by_place at pair is);
          }
        where
          by_place :
              (at : ℕ) (pair : ℕ × T)
              → slot_at (set slots place (Some (hash, value))) at ≡ Some pair
              → IsReached tags pair.0 at
          by_place at pair is =
              elim (cases_eq at place) [
                | inl same ↦
                    let both : Some (hash, value) ≡ Some pair =
                    sym (get_or-set_same slots place (Some (hash, value)) None (omega (arith, probed.same_length)))
                    ∙ ap (slot_at (set slots place (Some (hash, value)))) (sym same) ∙ is in
                    let here : (hash, value) ≡ pair = cc in
                    subst (λ (p : ℕ × T). IsReached tags p.0 at) here (subst (λ n. IsReached tags hash n) (sym same) reached)
                | inr other ↦ probed.reached at pair (sym (get_or-set_other slots place at (Some (hash, value)) None other) ∙ is)
              ]

      pub IsProbed-taken : IsProbed (set tags place 1) (set slots place None)
      IsProbed-taken =
          record {
            same_length = same_lengths 1 None;
            suited = suited-set 1 None (omega arith);
            reached = λ at pair is. reached-set 1 at pair.0 (omega arith) (by_place at pair is);
          }
        where
          by_place : (at : ℕ) (pair : ℕ × T) → slot_at (set slots place None) at ≡ Some pair → IsReached tags pair.0 at
          by_place at pair is =
              elim (cases_eq at place) [
                | inl same ↦
                    let both : None ≡ Some pair =
                    sym (get_or-set_same slots place None None (omega (arith, probed.same_length)))
                    ∙ ap (slot_at (set slots place None)) (sym same) ∙ is in
                    absurd (cc)
                | inr other ↦ probed.reached at pair (sym (get_or-set_other slots place at None None other) ∙ is)
              ]

  none_everywhere : (n at : ℕ) → ◌≡◌ {A = Option (ℕ × T)} (slot_at {T = T} (replicate n None) at) None
  none_everywhere zero at = refl
  none_everywhere (suc n) zero = refl
  none_everywhere (suc n) (suc at) = none_everywhere n at

  -- cells that are all empty
  pub IsProbed-empty : (n : ℕ) → IsProbed {T = T} (replicate n 0) (replicate n None)
  IsProbed-empty n =
      record {
        same_length = length-replicate n None ∙ sym (length-replicate n 0);
        suited = λ place inside. rw (zero_everywhere n place, none_everywhere n place) (omega arith);
        reached = λ place pair is. absurd (let never : ◌≡◌ {A = Option (ℕ × T)} None (Some pair) = sym (none_everywhere n place) ∙ is in cc);
      }

  pub pairs-empty : (n : ℕ) → pairs {T = T} (replicate n None) ≡ []
  pairs-empty zero = refl
  pairs-empty (suc n) = pairs-empty n

-- other values under the same hashes
module _ {T : Type 0} where
  abbrev hash_in : Option (ℕ × T) → Option ℕ
  hash_in slot = option_map (λ pair. pair.0) slot

  Suits-hash : (tag : ℕ) (slot now : Option (ℕ × T)) → hash_in now ≡ hash_in slot → Suits tag slot → Suits tag now
  Suits-hash tag None None same suits = suits
  Suits-hash tag None (Some b) same suits = absurd (cc)
  Suits-hash tag (Some a) None same suits = absurd (cc)
  Suits-hash tag (Some a) (Some b) same suits = let hash : b.0 ≡ a.0 = cc in suits ∙ ap tag_of (sym hash)

  hash_at :
      (slots now : List (Option (ℕ × T))) (place : ℕ)
      → hashes_of now ≡ hashes_of slots
      → hash_in (slot_at now place) ≡ hash_in (slot_at slots place)
  hash_at [] [] place same = refl
  hash_at [] (n ∷ now) place same = absurd (cc)
  hash_at (s ∷ slots) [] place same = absurd (cc)
  hash_at (s ∷ slots) (n ∷ now) zero same = let first : hash_in n ≡ hash_in s = cc in first
  hash_at (s ∷ slots) (n ∷ now) (suc place) same =
      hash_at slots now place (let rest : hashes_of now ≡ hashes_of slots = cc in rest)

  pair_was :
      (slot : Option (ℕ × T)) (pair : ℕ × T)
      → Some pair.0 ≡ hash_in slot
      → (was : ℕ × T) × (slot ≡ Some was) × (was.0 ≡ pair.0)
  pair_was None pair same = absurd (cc)
  pair_was (Some was) pair same = (was, refl, let hash : pair.0 ≡ was.0 = cc in sym hash)

  pub IsProbed-rewritten :
      (tags : List ℕ) (slots now : List (Option (ℕ × T)))
      → IsProbed tags slots
      → hashes_of now ≡ hashes_of slots
      → IsProbed tags now
  IsProbed-rewritten tags slots now probed same =
      record {
        same_length = sym (length-map now hash_in) ∙ ap length same ∙ length-map slots hash_in ∙ probed.same_length;
        suited = λ place inside. Suits-hash _ (slot_at slots place) (slot_at now place) (hash_at slots now place same) (probed.suited place inside);
        reached = λ place pair is.
            let was = pair_was (slot_at slots place) pair (sym (ap hash_in is) ∙ hash_at slots now place same) in
            subst (λ n. IsReached tags n place) was.2 (probed.reached place was.0 was.1);
      }

  pub length-rewritten :
      (slots now : List (Option (ℕ × T)))
      → hashes_of now ≡ hashes_of slots
      → length (pairs now) ≡ length (pairs slots)
  length-rewritten [] [] same = refl
  length-rewritten [] (n ∷ now) same = absurd (cc)
  length-rewritten (s ∷ slots) [] same = absurd (cc)
  length-rewritten (None ∷ slots) (None ∷ now) same =
      length-rewritten slots now (let rest : hashes_of now ≡ hashes_of slots = cc in rest)
  length-rewritten (None ∷ slots) (Some b ∷ now) same = absurd (cc)
  length-rewritten (Some a ∷ slots) (None ∷ now) same = absurd (cc)
  length-rewritten (Some a ∷ slots) (Some b ∷ now) same =
      ap suc (length-rewritten slots now (let rest : hashes_of now ≡ hashes_of slots = cc in rest))

-- 1 if a cell with this tag is full or marked, else 0
abbrev pub used_count : ℕ → ℕ
used_count tag = cond (is_used tag) 1 0

pub used_one : (tag : ℕ) → 0 < tag → used_count tag ≡ 1
used_one tag some = ap (λ b. cond {A = ℕ} (not b) 1 0) (ne_eqb tag 0 (λ same. absurd (omega arith)))

pub used-cons : (tag : ℕ) (tags : List ℕ) → count_by is_used (tag ∷ tags) ≡ used_count tag + count_by is_used tags
used-cons tag tags = sum_by-cons used_count tag tags

pub unused : (n : ℕ) → count_by is_used (replicate n 0) ≡ 0
unused n = sum_by-replicate used_count n 0 ∙ omega arith

-- how many cells are full or marked after a write of a tag
pub used-set :
    (tags : List ℕ) (place tag : ℕ)
    → place < length tags
    → count_by is_used (set tags place tag) + used_count (slice_index tags place) ≡ count_by is_used tags + used_count
    tag
used-set tags place tag inside = sum_by-set used_count tags place tag 0 inside
