-- Chains of vacant slots: what starts one, and which writes keep it.
use Rattle.std.proofs.Common.{◌≡◌, ◌≢◌, ℕ, zero, suc, ◌<◌, ◌≤◌, false, nat_eq, List, [], ◌∷◌, length, set, Some, slice_get, refl, sym, ap, subst, ◌∙◌, inl, inr, arith, length-set}
use Rattle.std.specs.List.{Contains, IsDistinct, AllByRecursion}
use Rattle.std.proofs.lemmas.Grind.{common_steps}
use Rattle.std.proofs.lemmas.List.{get_or-set_same, get_or-set_other}
use Rattle.std.proofs.lemmas.Option.{slice_get_within, slice_get-get_or, slice_get_past, get_or_from_slice_get}
use Rattle.iddqd.specs.declared.item_set.ItemSlot.{ItemSlot}
use Rattle.iddqd.specs.declared.item_set.ItemSlot.TheVariants.{Occupied, Vacant}
use Rattle.iddqd.proofs.StoreLemmas.{contains_cases, contains_none}
use Rattle.iddqd.specs.Store.{sentinel}
use Rattle.iddqd.specs.Slots.{chain_of, IsChain}

-- the index is not on the list
abbrev pub Off : ℕ → List ℕ → Type 0
Off at [] = Unit {0}
Off at (ix ∷ rest) = (ix ≢ at) × Off at rest

-- an index off a list differs from each member
Off-differs : (at : ℕ) (list : List ℕ) → Off at list → AllByRecursion (λ y. nat_eq at y ≡ false) list
Off-differs at [] off = tt
Off-differs at (ix ∷ rest) off = let differs = off.0 in (grind (arith, common_steps, differs), Off-differs at rest off.1)

module _ {T : Type 0} where
  -- a walk with enough steps gives the chain
  pub chain_of-is :
      (slots : List (ItemSlot T)) (n head : ℕ) (list : List ℕ)
      → length slots ≤ sentinel
      → length list ≤ n
      → IsChain slots head list
      → chain_of n slots head ≡ list
  chain_of-is slots zero head [] small enough p = refl
  chain_of-is slots zero head (ix ∷ rest) small enough p = absurd (omega arith)
  chain_of-is slots (suc n) head [] small enough p = rw (slice_get_past slots head (omega arith))
  chain_of-is slots (suc n) head (ix ∷ rest) small enough p =
      rw p.3 (ap (λ l. head ∷ l) (chain_of-is slots n p.0 rest small (omega arith) p.4) ∙ ap (λ i. i ∷ rest) (sym p.1))

  -- an index starts one chain at most
  pub IsChain-unique :
      (slots : List (ItemSlot T)) (head : ℕ) (a b : List ℕ)
      → IsChain slots head a
      → IsChain slots head b
      → length a ≡ length b
  IsChain-unique slots head [] [] p q = refl
  IsChain-unique slots head [] (ix ∷ rest) p q = absurd (q.2 p)
  IsChain-unique slots head (ix ∷ rest) [] p q = absurd (p.2 q)
  IsChain-unique slots head (ix ∷ rest) (iy ∷ more) p q =
      let first = p.3 in
      let second = q.3 in
      let same : q.0 ≡ p.0 = cc in
      ap suc (IsChain-unique slots p.0 rest more p.4 (subst (λ n. IsChain slots n more) same q.4))

  -- a longer chain does not come back to where it began
  pub Off-shorter :
      (slots : List (ItemSlot T)) (head at : ℕ) (whole list : List ℕ)
      → IsChain slots head whole
      → length list < length whole
      → IsChain slots at list
      → Off head list
  Off-shorter slots head at whole [] p fewer q = tt
  Off-shorter slots head at whole (ix ∷ rest) p fewer q = (
    λ same. let k = IsChain-unique slots head whole (ix ∷ rest) p (subst (λ n. IsChain slots n (ix ∷ rest)) (sym q.1 ∙ same) q) in omega arith,
    Off-shorter slots head q.0 whole rest p (omega arith) q.4,
  )

  -- an occupied slot is on no chain
  pub Off-occupied :
      (slots : List (ItemSlot T)) (at head : ℕ) (item : T) (list : List ℕ)
      → slice_get slots at ≡ Some (Occupied item)
      → IsChain slots head list
      → Off at list
  Off-occupied slots at head item [] found q = tt
  Off-occupied slots at head item (ix ∷ rest) found q =
      let listed = q.3 in
      let begins = q.1 in
      (λ same. cc, Off-occupied slots at q.0 item rest found q.4)

  -- what the other slots are after a write
  pub slice_get-set_other :
      (slots : List (ItemSlot T)) (at ix : ℕ) (slot old : ItemSlot T)
      → ix ≢ at
      → slice_get slots ix ≡ Some old
      → slice_get (set slots at slot) ix ≡ Some old
  slice_get-set_other slots at ix slot old other found =
      let within = slice_get_within slots ix _ found in
      slice_get-get_or (set slots at slot) ix slot (omega (arith, length-set slots at slot))
      ∙ ap Some (get_or-set_other slots at ix slot slot other ∙ get_or_from_slice_get slots ix _ slot found)

  pub slice_get-set_back :
      (slots : List (ItemSlot T)) (at ix : ℕ) (slot new : ItemSlot T)
      → ix ≢ at
      → slice_get (set slots at slot) ix ≡ Some new
      → slice_get slots ix ≡ Some new
  slice_get-set_back slots at ix slot new other found =
      let within = slice_get_within (set slots at slot) ix _ found in
      slice_get-get_or slots ix slot (omega (arith, length-set slots at slot))
      ∙ ap Some (sym (get_or-set_other slots at ix slot slot other) ∙ get_or_from_slice_get (set slots at slot) ix _ slot found)

  pub slice_get-set_same :
      (slots : List (ItemSlot T)) (at : ℕ) (slot : ItemSlot T)
      → at < length slots
      → slice_get (set slots at slot) at ≡ Some slot
  slice_get-set_same slots at slot within =
      slice_get-get_or (set slots at slot) at slot (omega (arith, length-set slots at slot))
      ∙ ap Some (get_or-set_same slots at slot slot within)

  -- a write off the chain keeps it
  pub IsChain-set :
      (slots : List (ItemSlot T)) (at head : ℕ) (slot : ItemSlot T) (list : List ℕ)
      → Off at list
      → IsChain slots head list
      → IsChain (set slots at slot) head list
  IsChain-set slots at head slot [] off p = p
  IsChain-set slots at head slot (ix ∷ rest) off p =
      let other : head ≢ at = λ same. off.0 (p.1 ∙ same) in
      (p.0, p.1, p.2, slice_get-set_other slots at head slot _ other p.3, IsChain-set slots at p.0 slot rest off.1 p.4)

  -- the chain has no index twice
  pub IsChain-distinct :
      (slots : List (ItemSlot T)) (head : ℕ) (list : List ℕ)
      → IsChain slots head list
      → IsDistinct nat_eq list
  unfolding IsDistinct
  IsChain-distinct slots head [] p = tt
  IsChain-distinct slots head (ix ∷ rest) p =
      let off : Off head rest = Off-shorter slots head p.0 (ix ∷ rest) rest p (omega arith) p.4 in
      (subst (λ i. AllByRecursion (λ y. nat_eq i y ≡ false) rest) (sym p.1) (Off-differs head rest off), IsChain-distinct slots p.0 rest p.4)

  -- each index of the chain is that of a vacant slot
  pub IsChain-vacant :
      (slots : List (ItemSlot T)) (head : ℕ) (list : List ℕ) (ix : ℕ)
      → IsChain slots head list
      → Contains list ix
      → (next : ℕ) × (slice_get slots ix ≡ Some (Vacant next))
  IsChain-vacant slots head [] ix p listed = absurd (contains_none ix listed)
  IsChain-vacant slots head (iy ∷ rest) ix p listed =
      elim (contains_cases iy ix rest listed) [
        | inl same ↦ (p.0, subst (λ i. slice_get slots i ≡ Some (Vacant p.0)) (sym p.1 ∙ same) p.3)
        | inr later ↦ IsChain-vacant slots p.0 rest ix p.4 later
      ]
