-- A clone of the slots has the same shape, and where clones equal what they are of, the same store.
use Rattle.std.proofs.Common.{◌≡◌, ℕ, zero, suc, List, [], ◌∷◌, map, Option, Some, None, is_some, count_by, cond, slice_get, refl, ◌∙◌, sym, ap, arith}
use Rattle.std.proofs.lemmas.List.Elements.{length_all_zip}
use Rattle.std.proofs.lemmas.List.Sums.{sum_by-cons}
use Rattle.std.specs.List.{AllZip}
use Rattle.iddqd.specs.declared.item_set.ItemSlot.{ItemSlot}
use Rattle.iddqd.specs.declared.item_set.ItemSlot.TheVariants.{Vacant, Occupied}
use Rattle.iddqd.specs.Store.{Store}
use Rattle.iddqd.specs.Clones.{IsItemClone, IsSlotClone, IsStoreClone}
use Rattle.iddqd.specs.Slots.{item_of, store_of, IsChain, IsSoundWithin}
use Rattle.iddqd.proofs.SlotLemmas.{free_is}

module _ {T : Type 0} (is_clone : T → T → Type 0) where
  items_are_clones :
      (slots copies : List (ItemSlot T))
      → AllZip (IsSlotClone is_clone) slots copies
      → AllZip (IsItemClone is_clone) (map item_of slots) (map item_of copies)
  items_are_clones [] [] all = tt
  items_are_clones [] (c ∷ copies) all = absurd all
  items_are_clones (slot ∷ slots) [] all = absurd all
  items_are_clones (Vacant next ∷ slots) (c ∷ copies) all = (ap item_of all.0, items_are_clones slots copies all.1)
  items_are_clones (Occupied item ∷ slots) (c ∷ copies) all = ((all.0.0, ap item_of all.0.1, all.0.2), items_are_clones slots copies all.1)

  count_of_clones :
      (slots copies : List (ItemSlot T))
      → AllZip (IsSlotClone is_clone) slots copies
      → count_by is_some (map item_of copies) ≡ count_by is_some (map item_of slots)
  count_of_clones [] [] all = refl
  count_of_clones [] (c ∷ copies) all = absurd all
  count_of_clones (slot ∷ slots) [] all = absurd all
  count_of_clones (Vacant next ∷ slots) (c ∷ copies) all =
      let one : Option T → ℕ = λ o. cond (is_some o) 1 0 in
      rw all.0 (omega (arith, count_of_clones slots copies all.1, sum_by-cons one None (map item_of slots), sum_by-cons one None (map item_of copies)))
  count_of_clones (Occupied item ∷ slots) (c ∷ copies) all =
      let one : Option T → ℕ = λ o. cond (is_some o) 1 0 in
      rw all.0.1 (omega (arith, count_of_clones slots copies all.1, sum_by-cons one (Some item) (map item_of slots), sum_by-cons one (Some all.0.0) (map item_of copies)))

  -- a slot is vacant exactly where its clone is, with the same link
  vacant_in_clones :
      (slots copies : List (ItemSlot T)) (ix next : ℕ)
      → AllZip (IsSlotClone is_clone) slots copies
      → slice_get slots ix ≡ Some (Vacant next)
      → slice_get copies ix ≡ Some (Vacant next)
  vacant_in_clones [] copies ix next all found = absurd (cc)
  vacant_in_clones (slot ∷ slots) [] ix next all found = absurd all
  vacant_in_clones (Vacant link ∷ slots) (c ∷ copies) zero next all found = rw all.0 found
  vacant_in_clones (Occupied item ∷ slots) (c ∷ copies) zero next all found = absurd (cc)
  vacant_in_clones (slot ∷ slots) (c ∷ copies) (suc ix) next all found = vacant_in_clones slots copies ix next all.1 found

  vacant_before :
      (slots copies : List (ItemSlot T)) (ix next : ℕ)
      → AllZip (IsSlotClone is_clone) slots copies
      → slice_get copies ix ≡ Some (Vacant next)
      → slice_get slots ix ≡ Some (Vacant next)
  vacant_before [] [] ix next all found = absurd (cc)
  vacant_before [] (c ∷ copies) ix next all found = absurd all
  vacant_before (slot ∷ slots) [] ix next all found = absurd all
  vacant_before (Vacant link ∷ slots) (c ∷ copies) zero next all found = ap Some (sym all.0) ∙ found
  vacant_before (Occupied item ∷ slots) (c ∷ copies) zero next all found = let same = all.0.1 in absurd (cc)
  vacant_before (slot ∷ slots) (c ∷ copies) (suc ix) next all found = vacant_before slots copies ix next all.1 found

  chain_in_clones :
      (slots copies : List (ItemSlot T)) (head : ℕ) (list : List ℕ)
      → AllZip (IsSlotClone is_clone) slots copies
      → IsChain slots head list
      → IsChain copies head list
  chain_in_clones slots copies head [] all p = p
  chain_in_clones slots copies head (ix ∷ rest) all p =
      (p.0, p.1, p.2, vacant_in_clones slots copies head p.0 all p.3, chain_in_clones slots copies p.0 rest all p.4)

  module _
      {limit : ℕ} {slots : List (ItemSlot T)} {head len : ℕ} (bounded : IsSoundWithin limit slots head len)
      (copies : List (ItemSlot T)) (all : AllZip (IsSlotClone is_clone) slots copies)
    where
      pub IsSoundWithin-clone : IsSoundWithin limit copies head len
      IsSoundWithin-clone =
          let same = length_all_zip _ slots copies all in
          record {
            sound = record {
              counted = bounded.sound.counted ∙ sym (count_of_clones slots copies all);
              chain = bounded.sound.chain;
              distinct = bounded.sound.distinct;
              chained = chain_in_clones slots copies head bounded.sound.chain all bounded.sound.chained;
              complete = λ ix next vacant. bounded.sound.complete ix next (vacant_before slots copies ix next all vacant);
            };
            small = omega (arith, bounded.small, same);
            named = bounded.named;
          }

      pub IsStoreClone-clone : IsStoreClone is_clone (store_of slots head limit) (store_of copies head limit)
      unfolding IsSoundWithin-clone
      IsStoreClone-clone = record {
        items = items_are_clones slots copies all;
        free = free_is IsSoundWithin-clone ∙ sym (free_is bounded);
        limit = refl;
      }

  -- where clones of items equal them, a clone of a store equals it
  same_items :
      ((x y : T) → is_clone x y → y ≡ x)
      → (items copies : List (Option T))
      → AllZip (IsItemClone is_clone) items copies
      → copies ≡ items
  same_items equal [] [] all = refl
  same_items equal [] (c ∷ copies) all = absurd all
  same_items equal (item ∷ items) [] all = absurd all
  same_items equal (None ∷ items) (c ∷ copies) all = ap (λ o. o ∷ copies) all.0 ∙ ap (λ l. None ∷ l) (same_items equal items copies all.1)
  same_items equal (Some item ∷ items) (c ∷ copies) all =
      ap (λ o. o ∷ copies) (all.0.1 ∙ ap Some (equal item all.0.0 all.0.2)) ∙ ap (λ l. Some item ∷ l) (same_items equal items copies all.1)

  pub same_store : ((x y : T) → is_clone x y → y ≡ x) → (s copy : Store T) → IsStoreClone is_clone s copy → copy ≡ s
  same_store equal s copy is =
      ap (λ i. record { items = i; free = copy.free; limit = copy.limit }) (same_items equal s.items copy.items is.items)
      ∙ ap (λ f. record { items = s.items; free = f; limit = copy.limit }) is.free
      ∙ ap (λ l. record { items = s.items; free = s.free; limit = l }) is.limit
