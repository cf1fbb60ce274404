-- What the slots of a walk are when its last one is given, and those of a consumed set when one is emptied.
use Rattle.std.proofs.Common.{◌≡◌, ℕ, ◌+◌, ◌-◌, ◌<◌, ◌≤◌, List, [], ◌∷◌, ◌++◌, map, length, set, None, sym, ap, ◌∙◌, arith, append-nil}
use Rattle.std.proofs.lemmas.List.{map-set, map_push, length-map, length_push, get_or-set_same, get_or-set_other}
use Rattle.iddqd.specs.LiveItems.{pairs_from, items_in, item_at, KeepsOtherItems}
use Rattle.iddqd.specs.Slots.{item_of, IsSlotWalk}
use Rattle.iddqd.specs.declared.item_set.ItemSlot.{ItemSlot}
use Rattle.iddqd.specs.declared.item_set.ItemSlot.TheVariants.{Occupied, Vacant}
use Rattle.iddqd.proofs.LiveItemLemmas.{pairs_from-append, items_in-append}

module _ {T : Type 0} where
  pairs_from-push :
      (first : ℕ) (rest : List (ItemSlot T)) (slot : ItemSlot T)
      → pairs_from first (map item_of (rest ++ slot ∷ [])) ≡ pairs_from first (map item_of rest) ++ pairs_from
      (first + length rest)
      (item_of slot ∷ [])
  pairs_from-push first rest slot = rw (map_push item_of rest slot, pairs_from-append, length-map)

  items_in-push :
      (rest : List (ItemSlot T)) (slot : ItemSlot T)
      → items_in (map item_of (rest ++ slot ∷ [])) ≡ items_in (map item_of rest) ++ items_in (item_of slot ∷ [])
  items_in-push rest slot = rw (map_push item_of rest slot, items_in-append)

  -- what a walk that had `all` left keeps once it gives its last item
  pub record GaveLast (rest : List (ItemSlot T)) (first left : ℕ) (item : T) (all : List (ℕ × T)) : Type 0 where
    pub had_one : 1 ≤ left
    pub walk : IsSlotWalk rest first (left - 1)
    pub steps : all ≡ pairs_from first (map item_of rest) ++ (first + length rest, item) ∷ []
    pub shorter : length (pairs_from first (map item_of rest)) < length all

  pub last_occupied :
      (slots rest : List (ItemSlot T)) (first left : ℕ) (item : T) (all : List (ℕ × T))
      → slots ≡ rest ++ Occupied item ∷ []
      → IsSlotWalk slots first left × (pairs_from first (map item_of slots) ≡ all)
      → GaveLast rest first left item all
  last_occupied slots rest first left item all split kept =
      let steps : all ≡ pairs_from first (map item_of rest) ++ (first + length rest, item) ∷ [] =
      sym kept.1 ∙ ap (λ l. pairs_from first (map item_of l)) split ∙ pairs_from-push first rest (Occupied item) in
      let longer = ap length steps ∙ length_push (pairs_from first (map item_of rest)) (first + length rest, item) in
      let counted = kept.0.counted ∙ ap length kept.1 in
      let shrunk = ap length split ∙ length_push rest (Occupied item) in
      record {
        had_one = omega arith;
        walk = record { counted = omega arith; named = omega (arith, kept.0.named) };
        steps = steps;
        shorter = omega arith;
      }

  pub last_vacant :
      (slots rest : List (ItemSlot T)) (first left next : ℕ) (all : List (ℕ × T))
      → slots ≡ rest ++ Vacant next ∷ []
      → IsSlotWalk slots first left × (pairs_from first (map item_of slots) ≡ all)
      → IsSlotWalk rest first left × (pairs_from first (map item_of rest) ≡ all)
  last_vacant slots rest first left next all split kept =
      let same : pairs_from first (map item_of slots) ≡ pairs_from first (map item_of rest) =
      ap (λ l. pairs_from first (map item_of l)) split ∙ pairs_from-push first rest (Vacant next) ∙ append-nil _ in
      let shrunk = ap length split ∙ length_push rest (Vacant next) in
      (record { counted = kept.0.counted ∙ ap length same; named = omega (arith, kept.0.named) }, sym same ∙ kept.1)

  -- the same of a walk that gives the items alone
  pub record GaveLastItem (rest : List (ItemSlot T)) (left : ℕ) (item : T) (all : List T) : Type 0 where
    pub had_one : 1 ≤ left
    pub counted : left - 1 ≡ length (items_in (map item_of rest))
    pub steps : all ≡ items_in (map item_of rest) ++ item ∷ []
    pub shorter : length (items_in (map item_of rest)) < length all

  pub last_item_occupied :
      (slots rest : List (ItemSlot T)) (left : ℕ) (item : T) (all : List T)
      → slots ≡ rest ++ Occupied item ∷ []
      → (left ≡ length (items_in (map item_of slots))) × (items_in (map item_of slots) ≡ all)
      → GaveLastItem rest left item all
  last_item_occupied slots rest left item all split kept =
      let steps : all ≡ items_in (map item_of rest) ++ item ∷ [] =
      sym kept.1 ∙ ap (λ l. items_in (map item_of l)) split ∙ items_in-push rest (Occupied item) in
      let longer = ap length steps ∙ length_push (items_in (map item_of rest)) item in
      let counted = kept.0 ∙ ap length kept.1 in
      record { had_one = omega arith; counted = omega arith; steps = steps; shorter = omega arith }

  pub last_item_vacant :
      (slots rest : List (ItemSlot T)) (left next : ℕ) (all : List T)
      → slots ≡ rest ++ Vacant next ∷ []
      → (left ≡ length (items_in (map item_of slots))) × (items_in (map item_of slots) ≡ all)
      → (left ≡ length (items_in (map item_of rest))) × (items_in (map item_of rest) ≡ all)
  last_item_vacant slots rest left next all split kept =
      let same : items_in (map item_of slots) ≡ items_in (map item_of rest) =
      ap (λ l. items_in (map item_of l)) split ∙ items_in-push rest (Vacant next) ∙ append-nil _ in
      (kept.0 ∙ ap length same, sym same ∙ kept.1)

  -- a slot that is emptied has nothing, and the others have what they had
  pub item_at-emptied :
      (slots : List (ItemSlot T)) (ix next : ℕ)
      → ix < length slots
      → item_at (map item_of (set slots ix (Vacant next))) ix ≡ None
  item_at-emptied slots ix next within =
      ap (λ l. item_at l ix) (map-set item_of slots ix (Vacant next)) ∙ get_or-set_same (map item_of slots) ix None None (omega (arith, length-map slots item_of))

  pub KeepsOtherItems-emptied :
      (slots : List (ItemSlot T)) (ix next : ℕ)
      → KeepsOtherItems ix (map item_of slots) (map item_of (set slots ix (Vacant next)))
  KeepsOtherItems-emptied slots ix next other apart =
      ap (λ l. item_at l other) (map-set item_of slots ix (Vacant next)) ∙ get_or-set_other (map item_of slots) ix other None None apart
