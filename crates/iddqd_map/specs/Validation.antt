-- What a check of a map's table reports.
use Rattle.std.specs.Prelude.{◌≡◌, ℕ, List, ⊤}
use Rattle.iddqd.specs.declared.internal.ValidateRefusal.{ValidateRefusal}
use Rattle.iddqd.specs.declared.internal.ValidateRefusal.TheVariants.{Invalid, Memory}
use Rattle.iddqd.specs.declared.internal.ValidationError.{ValidationError}
use Rattle.iddqd.specs.declared.internal.ValidationError.TheVariants.{Table, General}

-- a refusal is the error of the table with this name, or memory ran out
abbrev pub NamesTable : List ℕ → ValidateRefusal ValidationError → Type 0
NamesTable name (Invalid (Table reported error)) = reported.now ≡ name
NamesTable name (Invalid (General text)) = ⊥
NamesTable name (Memory error) = ⊤
