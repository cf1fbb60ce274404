-- Which keys are within the bounds of a range.
use Rattle.std.specs.Prelude.{Bool}
use Rattle.std.specs.declared.cmp.Ordering.{Ordering}
use Rattle.iddqd_keys.specs.OrderedQuery.{is_within}
use Rattle.iddqd_keys.specs.declared.bounds.Bounds.{Bounds}

-- whether the key satisfies both bounds; `compare` is what a query answers at a key
abbrev pub is_in_bounds : {Q K : Type 0} → (Q → K → Ordering) → Bounds Q → K → Bool
is_in_bounds compare bounds = is_within compare bounds.lower bounds.upper
