-- Parts by their kinds.
use Rattle.std.specs.Prelude.{◌==◌, ◌+◌, ◌-◌, ◌^◌, ℕ, Bool, min}
use Rattle.uses.specs.declared.stock.Part.{Part}

-- the part is of this kind
abbrev pub has_kind : ℕ → Part → Bool
has_kind kind part = kind == part.kind

-- the parts are of one kind
abbrev pub same_kind : Part → Part → Bool
same_kind x y = has_kind x.kind y

-- so many parts of the kind
abbrev pub with_count : ℕ → Part → Part
with_count count part = record part { count = count }

-- the part, and as many of its kind as the first one has, up to the greatest count
abbrev pub sum_of : Part → Part → Part
sum_of more part = with_count (min (part.count + more.count) (2 ^ 32 - 1)) part
