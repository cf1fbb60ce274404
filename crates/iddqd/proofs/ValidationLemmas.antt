-- For callers of validators: when a refusal meets what it promises, and the same in other words.
use Rattle.std.proofs.Common.{Result, Ok, Err}
use Rattle.iddqd.specs.declared.internal.ValidateRefusal.{ValidateRefusal}
use Rattle.iddqd.specs.declared.internal.ValidateRefusal.TheVariants.{Invalid, Memory}
use Rattle.iddqd.specs.Validation.{IsMemory, Validates}

module _ {E : Type 0} where
  -- where the parts are not sound, each refusal will do
  pub Validates-unsound : (sound : Type 0) (refusal : ValidateRefusal E) → (sound → ⊥) → Validates sound (Err refusal)
  Validates-unsound sound (Invalid error) unsound = unsound
  Validates-unsound sound (Memory error) unsound = tt

  -- for want of memory, whatever the parts are
  pub Validates-memory :
      (sound : Type 0) (refusal : ValidateRefusal E)
      → IsMemory refusal
      → Validates sound (Err refusal)
  Validates-memory sound (Invalid error) memory = absurd memory
  Validates-memory sound (Memory error) memory = tt

  -- a part that is needed refuses the whole
  pub Validates-part :
      (part whole : Type 0) (refusal : ValidateRefusal E)
      → (whole → part)
      → Validates part (Err refusal)
      → Validates whole (Err refusal)
  Validates-part part whole (Invalid error) needs unsound = λ all. unsound (needs all)
  Validates-part part whole (Memory error) needs memory = tt

  -- what is sound in other words
  pub Validates-alike :
      (sound other : Type 0) (result : Result (Unit {0}) (ValidateRefusal E))
      → (sound → other)
      → (other → sound)
      → Validates sound result
      → Validates other result
  Validates-alike sound other (Ok passed) onto back holds = onto holds
  Validates-alike sound other (Err refusal) onto back holds = Validates-part sound other refusal back holds
