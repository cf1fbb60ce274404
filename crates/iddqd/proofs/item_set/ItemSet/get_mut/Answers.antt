use Rattle.std.proofs.Common.{◌≡◌, ◌⊎◌, ◌<◌, ℕ, List, length, get_or, Some, slice_get, inl, refl, sym, ap, arith}
use Rattle.std.specs.Vec.{vec_capacity}
use Rattle.std.proofs.lemmas.Option.{slice_get_read}
use Rattle.iddqd.specs.declared.item_set.ItemSlot.{ItemSlot}
use Rattle.iddqd.specs.declared.item_set.ItemSlot.TheVariants.{Occupied}
use Rattle.iddqd.proofs.SlotLemmas.{item_at_occupied, IsSoundWithin-rebind, rebound-is}
use Rattle.iddqd.proofs.item_set.ItemSet.get_mut.Goals as goal

-- a slot that is read and occupied
there :
    {T : Type 0} (slots : List (ItemSlot T)) (ix : ℕ) (slot : ItemSlot T) (item : T)
    → ix < length slots
    → slot ≡ get_or slots ix slot
    → slot ≡ Occupied item
    → slice_get slots ix ≡ Some (Occupied item)
there slots ix slot item within read is =
    let found : slice_get slots ix ≡ Some slot = slice_get_read slots (length slots) ix slot refl within read in
    rw is at found

-- what a loan writes back, by what it writes back of each value
same_loan :
    {A B C D : Type 0} (name : A) (f g : B → C)
    → ((w : B) → f w ≡ g w)
    → ◌≡◌ {A = (A × (B → C)) ⊎ D} (inl (name, f)) (inl (name, g))
same_loan name f g same = λ i. inl (name, λ w. same w i)

pub invariant_of-self-lent : goal.invariant_of-self-lent
invariant_of-self-lent g c w =
    let within = c.in-Some-Occupied.ensures.variant.0 refl in
    let here = there c.self.inside.slots.items c.as_u32.result _ _ (omega (arith, within)) c.in-Some-Occupied.ensures.value c.in-Some-Occupied.field-0-is in
    rw c.in-Some-Occupied.field-0-is (IsSoundWithin-rebind c.self.invariant c.as_u32.result _ w here)

pub returns-in-Some-Occupied : goal.returns-in-Some-Occupied
returns-in-Some-Occupied g c =
    let within = c.in-Some-Occupied.ensures.variant.0 refl in
    let here = there c.self.inside.slots.items c.as_u32.result _ _ (omega (arith, within)) c.in-Some-Occupied.ensures.value c.in-Some-Occupied.field-0-is in (
      rw c.in-Some-Occupied.field-0-is (same_loan _ _ _ (λ w. rw (← c.self.view_is, ← c.as_u32.ensures) (ap (λ s. record { store = s; capacity = vec_capacity c.self.inside.slots }) (rebound-is c.self.invariant c.as_u32.result _ w here)))),
      record { writes_back = tt; value = rw (← c.self.view_is, ← c.as_u32.ensures, c.in-Some-Occupied.field-0-is) (sym (item_at_occupied c.self.inside.slots.items c.as_u32.result _ here)) },
    )
