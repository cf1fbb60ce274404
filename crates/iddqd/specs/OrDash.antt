-- How an optional index prints.
use Rattle.std.specs.Prelude.{ℕ, List, Option, Some, None, codes}
use Rattle.std.specs.Fmt.{decimal}

-- an index in digits, or a dash
abbrev pub index_or_dash : Option ℕ → List ℕ
index_or_dash None = codes "-"
index_or_dash (Some ix) = decimal ix
