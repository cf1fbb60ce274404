-- What the program has written, and what waits in its block of replies.
use Rattle.std.specs.Prelude.{◌≡◌, ◌<◌, ◌≤◌, ◌+◌, ◌++◌, ◌∷◌, ℕ, List, length, Result, OnOk, OnErr}
use Rattle.std.specs.Fmt.{decimal}
use Rattle.std.specs.Io.KnownBytes.{Appends}
use Rattle.iddqd_lines.specs.Line.{space, name_or_dash}
use Rattle.iddqd_lines.specs.Stream.{FailsOnErr}
use Rattle.iddqd_lines.specs.declared.sink.Sink as sink

-- A text was appended to the bytes that waited, and a prefix of all of them was written. The others wait if no write
-- failed; if one did, there are some.
module _ {O E : Type 0} (g : sink.Ghosts O) where
  pub record Sends (old : O) (waited text : List ℕ) (result : Result (Unit {0}) E) (new : O) (waits : List ℕ)
      : Type 0 where
    pub out : List ℕ
    pub others : List ℕ
    pub parts : waited ++ text ≡ out ++ others
    pub written : Appends (g.written old) (g.written new) out
    pub rest : OnOk result (waits ≡ others)
    pub lost : OnErr result (0 < length others)
    pub failed : FailsOnErr (g.has_failed old) result (g.has_failed new)

-- an index with a space before it
abbrev pub spaced : ℕ → List ℕ
spaced ix = space ∷ decimal ix

-- a new index, or a dash, with a space before it
abbrev pub spaced_name : ℕ → List ℕ
spaced_name name = space ∷ name_or_dash name

-- a text of at most `most` bytes was appended to the bytes that waited
pub record Puts (most : ℕ) (waited text waits : List ℕ) : Type 0 where
  pub appends : waits ≡ waited ++ text
  pub grows : length waits ≤ length waited + most
