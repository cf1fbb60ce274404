-- What stands in cells, by their tags.
use Rattle.std.proofs.Common.{inl, inr, ◌⊎◌, Bool, true, false, ◌≡◌, ◌∙◌, ℕ, zero, suc, ◌<◌, ◌≤◌, List, [], ◌∷◌, ◌++◌, Option, Some, None, IsSome, length, set, get_or, slice_index, replicate, refl, sym, ap, subst, arith}
use Rattle.std.proofs.lemmas.Bool.{lt-ltb, le-ltb}
use Rattle.iddqd_hash.proofs.OpenSlotLemmas.{zero_everywhere}
use Rattle.iddqd_hash.specs.OpenTable.{has_pair, slot_at, slots_of}

module _ {C T : Type 0} (slot : Bool → C → Option (ℕ × T)) where
  pub cells_long : (tags : List ℕ) (cells : List C) → length (slots_of slot tags cells) ≡ length cells
  cells_long tags [] = refl
  cells_long [] (cell ∷ cells) = ap suc (cells_long [] cells)
  cells_long (tag ∷ tags) (cell ∷ cells) = ap suc (cells_long tags cells)

  pub cell_inside :
      (tags : List ℕ) (cells now : List C) (at : ℕ)
      → at < length tags
      → length (slots_of slot tags cells) ≡ length tags
      → length now ≡ length cells
      → at < length now
  cell_inside tags cells now at inside same kept = omega (arith, cells_long tags cells)

  pub slot_there :
      (tags : List ℕ) (cells : List C) (at : ℕ) (d : C)
      → at < length cells
      → slot_at (slots_of slot tags cells) at ≡ slot (has_pair (slice_index tags at)) (get_or cells at d)
  slot_there tags [] at d inside = absurd (omega arith)
  slot_there [] (cell ∷ cells) zero d inside = refl
  slot_there [] (cell ∷ cells) (suc at) d inside = slot_there [] cells at d (omega arith)
  slot_there (tag ∷ tags) (cell ∷ cells) zero d inside = refl
  slot_there (tag ∷ tags) (cell ∷ cells) (suc at) d inside = slot_there tags cells at d (omega arith)

  -- a cell that is written with its tag
  pub slots-set :
      (tags : List ℕ) (cells : List C) (at tag : ℕ) (cell : C)
      → at < length tags
      → slots_of slot (set tags at tag) (set cells at cell) ≡
      set (slots_of slot tags cells) at (slot (has_pair tag) cell)
  slots-set [] cells at tag cell inside = absurd (omega arith)
  slots-set (one ∷ tags) [] zero tag cell inside = refl
  slots-set (one ∷ tags) [] (suc at) tag cell inside = refl
  slots-set (one ∷ tags) (first ∷ cells) zero tag cell inside = refl
  slots-set (one ∷ tags) (first ∷ cells) (suc at) tag cell inside =
      ap (λ xs. slot (has_pair one) first ∷ xs) (slots-set tags cells at tag cell (omega arith))

  -- a cell that is written beside the tag that it had
  pub slots-cell :
      (tags : List ℕ) (cells : List C) (at : ℕ) (cell : C)
      → slots_of slot tags (set cells at cell) ≡
      set (slots_of slot tags cells) at (slot (has_pair (slice_index tags at)) cell)
  slots-cell tags [] zero cell = refl
  slots-cell tags [] (suc at) cell = refl
  slots-cell [] (first ∷ cells) zero cell = refl
  slots-cell [] (first ∷ cells) (suc at) cell = ap (λ xs. slot false first ∷ xs) (slots-cell [] cells at cell)
  slots-cell (one ∷ tags) (first ∷ cells) zero cell = refl
  slots-cell (one ∷ tags) (first ∷ cells) (suc at) cell =
      ap (λ xs. slot (has_pair one) first ∷ xs) (slots-cell tags cells at cell)

  -- one cell more
  pub slots-push :
      (tags : List ℕ) (cells : List C) (cell : C)
      → slots_of slot tags (cells ++ cell ∷ []) ≡
      slots_of slot tags cells ++ slot (has_pair (slice_index tags (length cells))) cell ∷ []
  slots-push [] [] cell = refl
  slots-push (one ∷ tags) [] cell = refl
  slots-push [] (first ∷ cells) cell = ap (λ xs. slot false first ∷ xs) (slots-push [] cells cell)
  slots-push (one ∷ tags) (first ∷ cells) cell = ap (λ xs. slot (has_pair one) first ∷ xs) (slots-push tags cells cell)

  -- other tags that say the same of each cell
  pub slots-tags :
      (tags now : List ℕ) (cells : List C)
      → ((k : ℕ) → has_pair (slice_index now k) ≡ has_pair (slice_index tags k))
      → slots_of slot now cells ≡ slots_of slot tags cells
  slots-tags tags now [] same = refl
  slots-tags [] [] (cell ∷ cells) same = refl
  slots-tags [] (new ∷ now) (cell ∷ cells) same =
      let rest = slots-tags [] now cells (λ k. same (suc k)) in
      λ i. slot (same 0 i) cell ∷ rest i
  slots-tags (tag ∷ tags) [] (cell ∷ cells) same =
      let rest = slots-tags tags [] cells (λ k. same (suc k)) in
      λ i. slot (same 0 i) cell ∷ rest i
  slots-tags (tag ∷ tags) (new ∷ now) (cell ∷ cells) same =
      let rest = slots-tags tags now cells (λ k. same (suc k)) in
      λ i. slot (same 0 i) cell ∷ rest i

  -- a cell whose tag says that it has a pair
  pub pair_there :
      (tags : List ℕ) (cells : List C) (at : ℕ) (d : C)
      → at < length cells
      → 1 < slice_index tags at
      → slot_at (slots_of slot tags cells) at ≡ slot true (get_or cells at d)
  pair_there tags cells at d inside full =
      slot_there tags cells at d inside ∙ ap (λ b. slot b (get_or cells at d)) (lt-ltb 1 (slice_index tags at) full)

  -- what is read at a full place is what its cell shows with `true`
  pub pair_shown :
      (tags : List ℕ) (cells : List C) (at : ℕ) (d : C) (pair : ℕ × T)
      → at < length cells
      → 128 ≤ slice_index tags at
      → slot_at (slots_of slot tags cells) at ≡ Some pair
      → IsSome (slot true (get_or cells at d))
  pair_shown tags cells at d pair inside full is =
      subst (λ o. IsSome o) (sym is ∙ pair_there tags cells at d inside (omega arith)) refl

  -- A cell that shows a pair with its tag shows the same pair with `true`. If it shows none with its tag, it shows none
  -- with `false`.
  module _ (by_tag : (cell : C) → (slot false cell ≡ None) ⊎ (slot false cell ≡ slot true cell)) where
    by_tag_some : (tag : Bool) (cell : C) → IsSome (slot tag cell) → slot tag cell ≡ slot true cell
    by_tag_some true cell some = refl
    by_tag_some false cell some =
        elim (by_tag cell) [
          | inl none ↦ absurd (let never : false ≡ true = rw none at some in cc)
          | inr same ↦ same
        ]

    by_tag_none : (tag : Bool) (cell : C) → slot tag cell ≡ None → slot false cell ≡ None
    by_tag_none false cell none = none
    by_tag_none true cell none = elim (by_tag cell) [ inl empty ↦ empty | inr same ↦ same ∙ none ]

    module _ (tags : List ℕ) (cells : List C) (at : ℕ) (d : C) (inside : at < length cells) where
      pub some_there :
          IsSome (slot_at (slots_of slot tags cells) at)
          → slot_at (slots_of slot tags cells) at ≡ slot true (get_or cells at d)
      some_there some =
          let read = slot_there tags cells at d inside in
          read ∙ by_tag_some (has_pair (slice_index tags at)) (get_or cells at d) (subst (λ o. IsSome o) read some)

      pub none_there : slot_at (slots_of slot tags cells) at ≡ None → slot false (get_or cells at d) ≡ None
      none_there none =
          by_tag_none (has_pair (slice_index tags at)) (get_or cells at d) (sym (slot_there tags cells at d inside) ∙ none)

  -- a pair that is put into a cell, with a tag that says that it has one
  pub slots-put :
      (tags : List ℕ) (cells : List C) (at tag : ℕ) (cell : C) (pair : ℕ × T)
      → at < length tags
      → 1 < tag
      → slot true cell ≡ Some pair
      → slots_of slot (set tags at tag) (set cells at cell) ≡ set (slots_of slot tags cells) at (Some pair)
  slots-put tags cells at tag cell pair inside full is =
      slots-set tags cells at tag cell inside
      ∙ ap (λ o. set (slots_of slot tags cells) at o) (ap (λ b. slot b cell) (lt-ltb 1 tag full) ∙ is)

  -- one that is put beside such a tag
  pub slots-replaced :
      (tags : List ℕ) (cells : List C) (at : ℕ) (cell : C) (pair : ℕ × T)
      → 1 < slice_index tags at
      → slot true cell ≡ Some pair
      → slots_of slot tags (set cells at cell) ≡ set (slots_of slot tags cells) at (Some pair)
  slots-replaced tags cells at cell pair full is =
      slots-cell tags cells at cell
      ∙ ap (λ o. set (slots_of slot tags cells) at o) (ap (λ b. slot b cell) (lt-ltb 1 (slice_index tags at) full) ∙ is)

  -- a pair that is taken out
  pub slots-taken :
      (tags : List ℕ) (cells : List C) (at tag : ℕ) (cell : C)
      → at < length tags
      → tag ≤ 1
      → slot false cell ≡ None
      → slots_of slot (set tags at tag) (set cells at cell) ≡ set (slots_of slot tags cells) at None
  slots-taken tags cells at tag cell inside free is =
      slots-set tags cells at tag cell inside
      ∙ ap (λ o. set (slots_of slot tags cells) at o) (ap (λ b. slot b cell) (le-ltb 1 tag free) ∙ is)

  -- beside the tags of empty cells
  pub slots-emptied :
      (n : ℕ) (cells : List C) (at : ℕ) (cell : C)
      → slot false cell ≡ None
      → slots_of slot (replicate n 0) (set cells at cell) ≡ set (slots_of slot (replicate n 0) cells) at None
  slots-emptied n cells at cell is =
      slots-cell (replicate n 0) cells at cell
      ∙ ap (λ o. set (slots_of slot (replicate n 0) cells) at o) (ap (λ tag. slot (has_pair tag) cell) (zero_everywhere n at) ∙ is)

  pub slots-empty_push :
      (n : ℕ) (cells : List C) (cell : C)
      → slot false cell ≡ None
      → slots_of slot (replicate n 0) (cells ++ cell ∷ []) ≡ slots_of slot (replicate n 0) cells ++ None ∷ []
  slots-empty_push n cells cell is =
      slots-push (replicate n 0) cells cell
      ∙ ap (λ o. slots_of slot (replicate n 0) cells ++ o ∷ []) (ap (λ tag. slot (has_pair tag) cell) (zero_everywhere n (length cells)) ∙ is)

  -- the last of some cells, which is taken away
  pub slots-popped :
      (tags : List ℕ) (cells rest : List C) (cell : C) (n : ℕ) (has : Bool) (o : Option (ℕ × T))
      → cells ≡ rest ++ cell ∷ []
      → n ≡ length rest
      → has ≡ has_pair (slice_index tags n)
      → o ≡ slot has cell
      → slots_of slot tags cells ≡ slots_of slot tags rest ++ o ∷ []
  slots-popped tags cells rest cell n has o split last by_tag is =
      ap (slots_of slot tags) split ∙ slots-push tags rest cell
      ∙ ap (λ x. slots_of slot tags rest ++ x ∷ []) (ap (λ m. slot (has_pair (slice_index tags m)) cell) (sym last) ∙ ap (λ b. slot b cell) (sym by_tag) ∙ sym is)

  -- if the tag says that there is no pair, the slot is as if there were no tag
  pub slots_bare :
      (tags : List ℕ) (cells : List C) (k : ℕ)
      → has_pair (slice_index tags k) ≡ false
      → slot_at (slots_of slot tags cells) k ≡ slot_at (slots_of slot [] cells) k
  slots_bare tags [] k is = refl
  slots_bare [] (cell ∷ cells) k is = refl
  slots_bare (tag ∷ tags) (cell ∷ cells) zero is = ap (λ b. slot b cell) is
  slots_bare (tag ∷ tags) (cell ∷ cells) (suc k) is = slots_bare tags cells k is

  pub bare_empty : (n : ℕ) (cells : List C) → slots_of slot [] cells ≡ slots_of slot (replicate n 0) cells
  bare_empty n cells = slots-tags (replicate n 0) [] cells (λ k. ap has_pair (sym (zero_everywhere n k)))

pub full_tag : (tag : ℕ) → 128 ≤ tag → 1 < tag
full_tag tag full = omega arith
