-- What the checks of the slots say of them.
use Rattle.std.proofs.Common.{◌≡◌, ◌≢◌, ◌↔◌, ℕ, ◌+◌, List, [], ◌∷◌, length, Some, slice_get, sym, ap, subst, arith}
use Rattle.std.specs.List.{Contains}
use Rattle.std.proofs.lemmas.List.{nil_from_length}
use Rattle.iddqd.specs.declared.internal.ValidateCompact.{ValidateCompact}
use Rattle.iddqd.specs.declared.internal.ValidateCompact.TheVariants.{Compact, NonCompact}
use Rattle.iddqd.specs.declared.item_set.ItemSlot.{ItemSlot}
use Rattle.iddqd.specs.declared.item_set.ItemSlot.TheVariants.{Vacant}
use Rattle.iddqd.specs.Slots.{chain_of, HasChain, IsChain, IsSound, IsSoundWithin}
use Rattle.iddqd.specs.Validation.{Allows, IsSoundIn}
use Rattle.iddqd.proofs.StoreLemmas.{contains_none}
use Rattle.iddqd.proofs.VacancyLemmas.{slots_counted}
use Rattle.iddqd.proofs.SlotLemmas.{free_is, total}

module _ {T : Type 0} {slots : List (ItemSlot T)} {head len : ℕ} where
  -- parts that are sound in a mode are sound
  pub IsSound-in : (mode : ValidateCompact) → IsSoundIn mode slots head len → IsSound slots head len
  IsSound-in Compact sound = sound.0
  IsSound-in NonCompact sound = sound

  module _ (sound : IsSound slots head len) (vacant : ℕ) (as_many : len + vacant ≡ length slots) where
    -- the chain has as many links as slots are vacant
    pub HasChain-sound : HasChain slots head vacant
    HasChain-sound = (sound.chain, sound.chained, omega (arith, slots_counted sound))

    none_vacant : vacant ≡ 0 → (ix next : ℕ) → slice_get slots ix ≢ Some (Vacant next)
    none_vacant none ix next found =
        let empty = nil_from_length sound.chain (omega (arith, slots_counted sound)) in
        contains_none ix (subst (λ l. Contains l ix) empty (sound.complete ix next found))

    none_listed : ((ix next : ℕ) → slice_get slots ix ≢ Some (Vacant next)) → vacant ≡ 0
    none_listed none = by_chain sound.chain sound.chained (let counted = slots_counted sound in omega arith)
      where
        by_chain : (list : List ℕ) → IsChain slots head list → length list ≡ vacant → vacant ≡ 0
        by_chain [] ends size = sym size
        by_chain (ix ∷ rest) goes_on size = absurd (none head goes_on.0 goes_on.3)

    -- they are sound in the modes that allow so many
    pub IsSoundIn-allowed : (mode : ValidateCompact) → Allows mode vacant ↔ IsSoundIn mode slots head len
    IsSoundIn-allowed Compact = (λ none. (sound, none_vacant none), λ all. none_listed all.1)
    IsSoundIn-allowed NonCompact = (λ allowed. sound, λ same. tt)

  module _ {limit : ℕ} (bounded : IsSoundWithin limit slots head len) where
    -- in a set as many slots are vacant as indexes are free
    pub all_but_free : len + length (chain_of (length slots) slots head) ≡ length slots
    all_but_free = omega (arith, total bounded, ap length (free_is bounded))

    -- and a set is sound in the modes that allow so many
    pub IsSoundIn-set :
        (mode : ValidateCompact)
        → Allows mode (length (chain_of (length slots) slots head)) ↔ IsSoundIn mode slots head len
    IsSoundIn-set = IsSoundIn-allowed bounded.sound (length (chain_of (length slots) slots head)) all_but_free
