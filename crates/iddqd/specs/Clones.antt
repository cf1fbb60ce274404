-- What a clone of a slot and of a store is, given what a clone of an item is.
use Rattle.std.specs.Prelude.{◌≡◌, Option, Some, None}
use Rattle.std.specs.List.{AllZip}
use Rattle.iddqd.specs.Store.{Store}
use Rattle.iddqd.specs.declared.item_set.ItemSlot.{ItemSlot}
use Rattle.iddqd.specs.declared.item_set.ItemSlot.TheVariants.{Occupied, Vacant}

module _ {T : Type 0} (is_clone : T → T → Type 0) where
  -- a clone of the item if there is one, otherwise nothing
  abbrev pub IsItemClone : Option T → Option T → Type 0
  IsItemClone None copy = copy ≡ None
  IsItemClone (Some item) copy = (other : T) × (copy ≡ Some other) × is_clone item other

  -- a slot with a clone of the item if there is one, otherwise a vacant slot with the same link
  abbrev pub IsSlotClone : ItemSlot T → ItemSlot T → Type 0
  IsSlotClone (Vacant next) copy = copy ≡ Vacant next
  IsSlotClone (Occupied item) copy = (other : T) × (copy ≡ Occupied other) × is_clone item other

  -- for each slot a clone of its item or nothing, the same free indexes in the same order, and the same limit
  pub record IsStoreClone (s copy : Store T) : Type 0 where
    pub items : AllZip IsItemClone s.items copy.items
    pub free : copy.free ≡ s.free
    pub limit : copy.limit ≡ s.limit
