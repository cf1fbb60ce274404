-- What the slots are when the vacant ones are let go, and which name each slot is given.
use Rattle.std.proofs.Common.{◌≡◌, ℕ, zero, suc, ◌<◌, Bool, List, [], ◌∷◌, map, length, get_or, Some, None, is_some, count_by, slice_get, refl, sym, ap, ◌∙◌, arith}
use Rattle.std.specs.List.{filter, IsDistinct}
use Rattle.std.proofs.lemmas.List.{length-map, get_or-map, nil_from_length}
use Rattle.std.proofs.lemmas.List.Sums.{length-filter}
use Rattle.iddqd.specs.declared.item_set.ItemSlot.{ItemSlot}
use Rattle.iddqd.specs.declared.item_set.ItemSlot.TheVariants.{Occupied, Vacant}
use Rattle.iddqd.specs.Slots.{item_of, chain_of, store_of, IsSoundWithin}
use Rattle.iddqd.specs.Compaction.{compacted}
use Rattle.iddqd.specs.Store.{sentinel}
use Rattle.iddqd.proofs.SlotLemmas.{free_is, total}
use Rattle.iddqd.proofs.CompactionLemmas.{count-filter}

module _ {T : Type 0} where
  abbrev pub is_occupied : ItemSlot T → Bool
  is_occupied slot = is_some (item_of slot)

  items_kept : (slots : List (ItemSlot T)) → map item_of (filter is_occupied slots) ≡ filter is_some (map item_of slots)
  items_kept [] = refl
  items_kept (Occupied item ∷ slots) = ap (λ l. Some item ∷ l) (items_kept slots)
  items_kept (Vacant next ∷ slots) = items_kept slots

  none_vacant :
      (slots : List (ItemSlot T)) (ix next : ℕ)
      → slice_get (filter is_occupied slots) ix ≡ Some (Vacant next)
      → ⊥
  none_vacant [] ix next found = cc
  none_vacant (Occupied item ∷ slots) zero next found = cc
  none_vacant (Occupied item ∷ slots) (suc ix) next found = none_vacant slots ix next found
  none_vacant (Vacant link ∷ slots) ix next found = none_vacant slots ix next found

  -- what the store has at the index of a slot that was read
  pub item_read :
      (slots : List (ItemSlot T)) (ix : ℕ) (slot : ItemSlot T)
      → ix < length slots
      → slot ≡ get_or slots ix slot
      → get_or (map item_of slots) ix None ≡ item_of slot
  item_read slots ix slot within read = get_or-map item_of slots ix slot None within ∙ ap item_of (sym read)

  module _ {limit : ℕ} {slots : List (ItemSlot T)} {head len : ℕ} (bounded : IsSoundWithin limit slots head len) where
    -- as many slots are left as there were items
    pub IsSoundWithin-closed_up : IsSoundWithin limit (filter is_occupied slots) sentinel len
    unfolding IsDistinct
    IsSoundWithin-closed_up =
        let items = map item_of slots in
        let left : length (filter is_occupied slots) ≡ len = sym (length-map (filter is_occupied slots) item_of) ∙ ap length (items_kept slots) ∙ length-filter is_some items ∙ sym bounded.sound.counted in
        record {
          sound = record {
            counted = bounded.sound.counted ∙ sym (length-filter is_some items) ∙ sym (count-filter items) ∙ sym (ap (count_by is_some) (items_kept slots));
            chain = [];
            distinct = tt;
            chained = refl;
            complete = λ ix next vacant. absurd (none_vacant slots ix next vacant);
          };
          small = omega (arith, left, total bounded, bounded.small);
          named = bounded.named;
        }

    -- nothing is free exactly where as many slots as items are counted
    pub free_none : length slots ≡ len → chain_of (length slots) slots head ≡ []
    free_none same = free_is bounded ∙ nil_from_length bounded.sound.chain (omega (arith, total bounded))

    pub free_some : (length slots ≡ len → ⊥) → chain_of (length slots) slots head ≡ [] → ⊥
    free_some differs none =
        let short = ap length (sym (free_is bounded) ∙ none) in
        differs (omega (arith, total bounded))

  module _ {limit : ℕ} {slots : List (ItemSlot T)} {head len : ℕ} (bounded : IsSoundWithin limit slots head len) where
    pub closed_up-is : store_of (filter is_occupied slots) sentinel limit ≡ compacted (store_of slots head limit)
    unfolding IsSoundWithin-closed_up
    closed_up-is =
        let none : chain_of (length (filter is_occupied slots)) (filter is_occupied slots) sentinel ≡ [] = free_is (IsSoundWithin-closed_up bounded) in
        ap (λ f. record { items = map item_of (filter is_occupied slots); free = f; limit = limit }) none ∙ ap (λ l. record { items = l; free = []; limit = limit }) (items_kept slots)
