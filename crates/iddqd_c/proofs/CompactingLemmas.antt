-- The new indexes of all slots, one after another.
use Rattle.std.proofs.Common.{◌≡◌, ◌∙◌, ◌+◌, ◌<◌, ℕ, List, [], ◌∷◌, ◌++◌, map, length, get_or, slice_set, Option, Some, None, is_some, refl, sym, ap, subst, arith}
use Rattle.std.specs.List.{Contains}
use Rattle.std.specs.Prelude.{drop, take}
use Rattle.std.proofs.lemmas.List.{drop_more, ext_get_or, get_or-map, length-map, take_all}
use Rattle.iddqd.specs.Store.{Store, sentinel, get, slot_count, IsValid}
use Rattle.iddqd.specs.Compaction.{new_name, numbers, IsRemapOf}
use Rattle.iddqd.specs.declared.index_remap.IndexRemap.{IndexRemap}
use Rattle.iddqd.specs.declared.index_remap.IndexRemap.TheVariants.{Identity, Permuted}
use Rattle.iddqd.proofs.StoreLemmas.{contains_none}
use Rattle.iddqd.proofs.CompactionLemmas.{length-numbers, get_or-numbers, get_or-names, new_name-live, rank_same}
use Rattle.iddqd_c.specs.Compacting.{name_in, FillsNewIndexes}
use Rattle.iddqd_codes.proofs.FillLemmas.{IsFilled, IsFilled-step, filled_at}

module _ (f : ℕ → ℕ) where
  -- one more number was put to its place
  pub IsFilled-number :
      (n at : ℕ) (was now : List ℕ)
      → IsFilled f (numbers n) (drop at (numbers n)) at was now
      → at < n
      → at < length was
      → IsFilled f (numbers n) (drop (at + 1) (numbers n)) (at + 1) was (slice_set now at (f at))
  IsFilled-number n at was now before within room =
      let opened = drop_more (numbers n) at 0 (subst (λ k. at < k) (sym (length-numbers n)) within) in
      let first = ap (λ k. k ∷ drop (at + 1) (numbers n)) (get_or-numbers n at 0 within) in
      IsFilled-step f (numbers n) (drop (at + 1) (numbers n)) at at was now
      (subst (λ rest. IsFilled f (numbers n) rest at was now) (opened ∙ first) before) room

  -- once all numbers were put there
  pub filled_numbers :
      (n at : ℕ) (was now : List ℕ)
      → IsFilled f (numbers n) (drop at (numbers n)) at was now
      → at ≡ n
      → now ≡ map f (numbers n) ++ drop n was
  filled_numbers n at was now is end =
      filled_at f (numbers n) (drop at (numbers n)) at was now is
      ∙ (λ i. map f (take (end i) (numbers n)) ++ drop (end i) was)
      ∙ ap (λ xs. map f xs ++ drop n was) (take_all n (numbers n) (omega (arith, length-numbers n)))

  -- numbers are mapped as another function does that agrees with this one on them
  map_numbers : (g : ℕ → ℕ) (n : ℕ) → ((i : ℕ) → i < n → f i ≡ g i) → map f (numbers n) ≡ map g (numbers n)
  map_numbers g n agree =
      let long : length (map f (numbers n)) ≡ n = length-map (numbers n) f ∙ length-numbers n in
      ext_get_or 0 (map f (numbers n)) (map g (numbers n))
      (length-map (numbers n) f ∙ sym (length-map (numbers n) g))
      (λ i within.
      let less : i < n = subst (λ k. i < k) long within in
      let inside : i < length (numbers n) = subst (λ k. i < k) (sym (length-numbers n)) less in
      get_or-map f (numbers n) i 0 0 inside
      ∙ ap f (get_or-numbers n i 0 less) ∙ agree i less ∙ sym (ap g (get_or-numbers n i 0 less))
      ∙ sym (get_or-map g (numbers n) i 0 0 inside))

module _ {T : Type 0} where
  -- if no index is free, each slot has an item
  live_slot :
      (s : Store T) → IsValid s → s.free ≡ [] → (ix : ℕ) → ix < slot_count s → (o : Option T) → get s ix ≡ o
      → new_name s ix ≡ ix
  live_slot s valid none ix within (Some item) is =
      new_name-live s ix (ap is_some is) ∙ rank_same s valid none ix item is
  live_slot s valid none ix within None is =
      absurd (contains_none ix (subst (λ xs. Contains xs ix) none ((valid.vacant ix).1 (within, is))))

  -- the remap of a store has the new index of each slot
  name_of_slot :
      (s : Store T) (remap : IndexRemap) → IsValid s → IsRemapOf s remap → (ix : ℕ) → ix < slot_count s
      → name_in remap ix ≡ new_name s ix
  name_of_slot s Identity valid is ix within = sym (live_slot s valid is ix within (get s ix) refl)
  name_of_slot s (Permuted names) valid is ix within =
      ap (λ xs. get_or xs ix sentinel) is.1 ∙ get_or-names s ix sentinel within

  pub names_of_slots :
      (s : Store T) (remap : IndexRemap) (was now : List ℕ)
      → IsValid s
      → IsRemapOf s remap
      → now ≡ map (name_in remap) (numbers (slot_count s)) ++ drop (slot_count s) was
      → FillsNewIndexes s was now
  names_of_slots s remap was now valid is filled =
      filled
      ∙ ap (λ xs. xs ++ drop (slot_count s) was)
      (map_numbers (name_in remap) (new_name s) (slot_count s) (name_of_slot s remap valid is))
