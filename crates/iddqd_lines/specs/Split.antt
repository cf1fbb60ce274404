-- Bytes split at the first occurrence of a byte.
use Rattle.std.specs.Prelude.{◌≡◌, ◌==◌, ℕ, false, List, ◌∷◌, ◌++◌, All}

-- the byte isn't among these
abbrev pub HasNo : ℕ → List ℕ → Type 0
HasNo byte bytes = All (λ b. (b == byte) ≡ false) bytes

-- the bytes are these two parts with the byte between them, and the first part doesn't have it
pub record IsSplitAt (byte : ℕ) (bytes before after : List ℕ) : Type 0 where
  pub whole : bytes ≡ before ++ byte ∷ after
  pub first : HasNo byte before
