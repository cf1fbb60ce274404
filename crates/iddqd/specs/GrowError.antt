-- The text of a `GrowError`.
use Rattle.std.specs.Prelude.{ℕ, List, codes}
use Rattle.iddqd.specs.declared.item_set.GrowError.{GrowError}
use Rattle.iddqd.specs.declared.item_set.GrowError.TheVariants.{Full, Memory}

-- why a set can't take one more item, in words
abbrev pub grow_error_text : GrowError → List ℕ
grow_error_text Full = codes "full"
grow_error_text Memory = codes "no memory"
