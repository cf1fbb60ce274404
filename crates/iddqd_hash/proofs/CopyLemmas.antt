-- A clone of the pairs, in a list and in cells.
use Rattle.std.proofs.Common.{◌≡◌, ◌∙◌, ◌+◌, ◌-◌, ◌<◌, ◌≤◌, ℕ, zero, suc, inl, inr, true, false, ltb, ltb-true, ltb-false, List, [], ◌∷◌, Option, Some, None, IsSome, length, drop, set, replicate, slice_index, refl, sym, ap, subst, arith}
use Rattle.std.proofs.lemmas.Bool.{cases_eq, le-ltb}
use Rattle.std.proofs.lemmas.List.{length-set, get_or-drop, get_or-set_same, get_or-set_other}
use Rattle.std.specs.List.{AllZip}
use Rattle.std.specs.Option.{option_map}
use Rattle.std.proofs.lemmas.List.Sorted.{IsPermutation-refl}
use Rattle.iddqd_hash.specs.Clones.{IsSlotClone}
use Rattle.iddqd_hash.specs.HashTable.{Rewrites}
use Rattle.iddqd_hash.specs.OpenTable.{has_pair, hashes_of, slot_at, pairs, Suits, IsProbed, NoneFull}
use Rattle.iddqd_hash.proofs.OpenSlotLemmas.{free_slot}

module _ {T : Type 0} (is_clone : T → T → Type 0) where
  pub Rewrites-cloned :
      (es copies : List (ℕ × T))
      → AllZip (λ e w. (w.0 ≡ e.0) × is_clone e.1 w.1) es copies
      → Rewrites is_clone es copies
  Rewrites-cloned es copies all = record { rewritten = copies; each = all; moved = IsPermutation-refl copies }

  same_hash :
      (slot copy : Option (ℕ × T))
      → IsSlotClone is_clone slot copy
      → option_map {U = ℕ} (λ pair. pair.0) copy ≡ option_map {U = ℕ} (λ pair. pair.0) slot
  same_hash None copy is = ap (option_map {U = ℕ} (λ (pair : ℕ × T). pair.0)) is
  same_hash (Some pair) copy is = ap (option_map {U = ℕ} (λ (pair : ℕ × T). pair.0)) is.1

  pub hashes_of_clones :
      (slots copies : List (Option (ℕ × T)))
      → AllZip (IsSlotClone is_clone) slots copies
      → hashes_of copies ≡ hashes_of slots
  hashes_of_clones [] [] all = refl
  hashes_of_clones [] (copy ∷ copies) all = absurd all
  hashes_of_clones (slot ∷ slots) [] all = absurd all
  hashes_of_clones (slot ∷ slots) (copy ∷ copies) all =
      let first = same_hash slot copy all.0 in
      let rest = hashes_of_clones slots copies all.1 in
      λ i. first i ∷ rest i

  one_more :
      (slot copy : Option (ℕ × T)) (slots copies : List (Option (ℕ × T)))
      → IsSlotClone is_clone slot copy
      → AllZip (λ e w. (w.0 ≡ e.0) × is_clone e.1 w.1) (pairs slots) (pairs copies)
      → AllZip (λ e w. (w.0 ≡ e.0) × is_clone e.1 w.1) (pairs (slot ∷ slots)) (pairs (copy ∷ copies))
  one_more None copy slots copies is rest = rw is rest
  one_more (Some pair) copy slots copies is rest = rw is.1 ((refl, is.2), rest)

  pairs_are_clones :
      (slots copies : List (Option (ℕ × T)))
      → AllZip (IsSlotClone is_clone) slots copies
      → AllZip (λ e w. (w.0 ≡ e.0) × is_clone e.1 w.1) (pairs slots) (pairs copies)
  pairs_are_clones [] [] all = tt
  pairs_are_clones [] (copy ∷ copies) all = absurd all
  pairs_are_clones (slot ∷ slots) [] all = absurd all
  pairs_are_clones (slot ∷ slots) (copy ∷ copies) all =
      one_more slot copy slots copies all.0 (pairs_are_clones slots copies all.1)

  pub Rewrites-slots :
      (slots copies : List (Option (ℕ × T)))
      → AllZip (IsSlotClone is_clone) slots copies
      → Rewrites is_clone (pairs slots) (pairs copies)
  Rewrites-slots slots copies all = Rewrites-cloned (pairs slots) (pairs copies) (pairs_are_clones slots copies all)

  none_everywhere : (n k : ℕ) → slot_at (replicate {A = Option (ℕ × T)} n None) k ≡ None
  none_everywhere zero k = refl
  none_everywhere (suc n) zero = refl
  none_everywhere (suc n) (suc k) = none_everywhere n k

  no_pair : (slots : List (Option (ℕ × T))) → length (pairs slots) ≡ 0 → (k : ℕ) → slot_at slots k ≡ None
  no_pair [] none k = refl
  no_pair (None ∷ slots) none zero = refl
  no_pair (None ∷ slots) none (suc k) = no_pair slots none k
  no_pair (Some pair ∷ slots) none k = absurd (omega arith)

  pub some_pair : (slot : Option (ℕ × T)) → IsSome slot → (pair : ℕ × T) × (slot ≡ Some pair)
  some_pair None some = absurd (let never : false ≡ true = some in cc)
  some_pair (Some pair) some = (pair, refl)

  by_place :
      (slots copies : List (Option (ℕ × T)))
      → length copies ≡ length slots
      → ((k : ℕ) → k < length slots → IsSlotClone is_clone (slot_at slots k) (slot_at copies k))
      → AllZip (IsSlotClone is_clone) slots copies
  by_place [] [] same each = tt
  by_place [] (copy ∷ copies) same each = absurd (omega arith)
  by_place (slot ∷ slots) [] same each = absurd (omega arith)
  by_place (slot ∷ slots) (copy ∷ copies) same each =
      (each 0 (omega arith), by_place slots copies (omega arith) (λ k below. each (suc k) (omega arith)))

  -- The slots before a place were cloned, and no pair stands in the others of the copy. They are bare: what stands in
  -- cells beside the tags of empty ones. Those tags are to be the copied ones, by which the slots are read.
  pub record Cloning (slots copies bare : List (Option (ℕ × T))) (at : ℕ) : Type 0 where
    pub same_length : length copies ≡ length slots
    pub cloned : (k : ℕ) → k < at → IsSlotClone is_clone (slot_at slots k) (slot_at copies k)
    pub empty : (k : ℕ) → at ≤ k → slot_at bare k ≡ None

  pub Cloning-start :
      (slots copies bare : List (Option (ℕ × T))) (at n : ℕ)
      → at ≡ 0
      → length copies ≡ length slots
      → bare ≡ replicate n None
      → Cloning slots copies bare at
  Cloning-start slots copies bare at n none same is =
      record {
        same_length = same;
        cloned = λ k below. absurd (omega arith);
        empty = λ k _. ap (λ xs. slot_at xs k) is ∙ none_everywhere n k;
      }

  module _
      (slots copies bare : List (Option (ℕ × T))) (at : ℕ) (state : Cloning slots copies bare at) (tags : List ℕ)
      (probed : IsProbed tags slots)
      (same : (k : ℕ) → has_pair (slice_index tags k) ≡ false → slot_at copies k ≡ slot_at bare k)
    where
      -- where the table has no pair, the clone has none
      none_there :
          (k : ℕ)
          → k < length tags
          → at ≤ k
          → slot_at slots k ≡ None
          → IsSlotClone is_clone (slot_at slots k) (slot_at copies k)
      none_there k inside past none =
          let suits : Suits {T = T} (slice_index tags k) None =
          subst (λ o. Suits (slice_index tags k) o) none (probed.suited k inside) in
          let free : has_pair (slice_index tags k) ≡ false = le-ltb 1 (slice_index tags k) suits in
          subst (λ slot. IsSlotClone is_clone slot (slot_at copies k)) (sym none) (same k free ∙ state.empty k past)

      -- no cell between is full
      pub Cloning-gaps :
          (to : ℕ)
          → at ≤ to
          → to < length tags
          → NoneFull tags at (to - at)
          → Cloning slots copies bare to
      Cloning-gaps to onward inside gaps =
          record {
            same_length = state.same_length;
            cloned = λ k below.
                elim (ltb k at) as (λ b. ltb k at ≡ b → IsSlotClone is_clone (slot_at slots k) (slot_at copies k)) [
                  | true ↦ λ is. state.cloned k (ltb-true _ _ is)
                  | false ↦ λ is.
                      let past : at ≤ k = ltb-false _ _ is in
                      none_there k (omega arith) past (free_slot (slice_index tags k) (slot_at slots k) (probed.suited k (omega arith)) (gaps k past (omega arith)))
                ] refl;
            empty = λ k past. state.empty k (omega arith);
          }

      pub Cloning-end : length (pairs (drop at slots)) ≡ 0 → AllZip (IsSlotClone is_clone) slots copies
      Cloning-end none =
          by_place slots copies state.same_length (λ k below.
          elim (ltb k at) as (λ b. ltb k at ≡ b → IsSlotClone is_clone (slot_at slots k) (slot_at copies k)) [
            | true ↦ λ is. state.cloned k (ltb-true _ _ is)
            | false ↦ λ is.
                let past : at ≤ k = ltb-false _ _ is in
                let there : k ≡ at + (k - at) = omega arith in
                none_there k (omega (arith, probed.same_length)) past
                (ap (slot_at slots) there ∙ sym (get_or-drop at slots (k - at) None) ∙ no_pair (drop at slots) none (k - at))
          ] refl)

  pub Cloning-put :
      (slots copies bare : List (Option (ℕ × T))) (at : ℕ)
      → Cloning slots copies bare at
      → (copy other : Option (ℕ × T))
      → at < length slots
      → IsSlotClone is_clone (slot_at slots at) copy
      → Cloning slots (set copies at copy) (set bare at other) (at + 1)
  Cloning-put slots copies bare at state copy other inside is =
      record {
        same_length = length-set copies at copy ∙ state.same_length;
        cloned = λ k below.
            elim (cases_eq k at) [
              | inl same ↦
                  rw same (subst (λ slot. IsSlotClone is_clone (slot_at slots at) slot) (sym (get_or-set_same copies at copy None (omega (arith, state.same_length)))) is)
              | inr apart ↦
                  subst (λ slot. IsSlotClone is_clone (slot_at slots k) slot) (sym (get_or-set_other copies at k copy None apart)) (state.cloned k (omega arith))
            ];
        empty = λ k past. get_or-set_other bare at k other None (λ same. absurd (omega arith)) ∙ state.empty k (omega arith);
      }
