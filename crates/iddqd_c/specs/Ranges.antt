-- The entries in the order of their second keys and then of their indexes, between two ends, by buffers.
use Rattle.std.specs.Prelude.{◌≡◌, ◌⊎◌, ◌==◌, ◌&&◌, ◌||◌, ℕ, Bool, List, Option, Some, None, filter, reverse, nat_lt, if◌then◌else◌}
use Rattle.std.specs.declared.ops.Bound.{Bound}
use Rattle.std.specs.declared.ops.Bound.TheVariants.{Included, Unbounded}
use Rattle.iddqd.specs.Store.{sentinel}
use Rattle.iddqd_keys.specs.OrderedQuery.{is_within}
use Rattle.iddqd_ord_map.specs.InOrder.{IteratesInOrder, FindsFirst, FindsLast}
use Rattle.iddqd_codes.specs.declared.TheConstants.{OK, MISSING}
use Rattle.iddqd_c.specs.Held.{Items}
use Rattle.iddqd_c.specs.Keys.{by_second, compares_second}
use Rattle.iddqd_c.specs.Rows.{FillsRows, row_of}
use Rattle.iddqd_c.specs.declared.entry.TheConstants.{OPEN, IN}
use Rattle.iddqd_c.specs.declared.entry.End.{End}
use Rattle.iddqd_c.specs.declared.entry.Entry.{Entry}
use Rattle.iddqd_c.specs.declared.entry.Row.{Row}
use Rattle.iddqd_c.specs.declared.entry.Direction.{Direction}
use Rattle.iddqd_c.specs.declared.entry.Direction.TheVariants.{Up, Down}

-- an entry at an index lies before a place, or behind it
abbrev pub lies_before : End → ℕ × Entry → Bool
lies_before place (ix, entry) =
    nat_lt entry.second place.second || (entry.second == place.second && nat_lt ix place.index)

abbrev pub lies_behind : End → ℕ × Entry → Bool
lies_behind place (ix, entry) =
    nat_lt place.second entry.second || (entry.second == place.second && nat_lt place.index ix)

-- it lies at the place
abbrev pub lies_at : End → ℕ × Entry → Bool
lies_at place (ix, entry) = entry.second == place.second && ix == place.index

-- the end lets the entry in, as the lower end of a range, or as the upper one
abbrev pub is_above : End → ℕ × Entry → Bool
is_above end at = end.side == OPEN || lies_behind end at || (end.side == IN && lies_at end at)

abbrev pub is_below : End → ℕ × Entry → Bool
is_below end at = end.side == OPEN || lies_before end at || (end.side == IN && lies_at end at)

-- the entry lies between the two ends
abbrev pub lies_between : End → End → ℕ × Entry → Bool
lies_between from to at = is_above from at && is_below to at

-- the ends of the entries with a second key, from an index on
abbrev pub starts_at : ℕ → ℕ → End
starts_at second index = record { second = second; index = index; side = IN }

abbrev pub ends_behind : ℕ → End
ends_behind second = record { second = second; index = sentinel; side = IN }

-- what an end says of second keys alone
abbrev pub bound_of : End → Bound ℕ
bound_of end = if end.side == OPEN then Unbounded else Included end.second

-- the entry's second key is between those of the ends, or is one of them
abbrev pub spans_second : End → End → Entry → Bool
spans_second from to = is_within compares_second (bound_of from) (bound_of to)

-- a list from its start, or from its end
abbrev pub along : {X : Type 0} → Direction → List X → List X
along Up xs = xs
along Down xs = reverse xs

-- What a range writes, upwards or downwards: of the entries whose second keys lie between the ends, in order, the rows
-- of those that themselves lie there, as far as the buffer goes.
pub record WritesRange
    (direction : Direction) (from to : End) (code count : ℕ) (was rows : List Row) (m : Items) : Type 0 where
  pub done : code ≡ OK
  pub pairs : List (ℕ × Entry)
  pub in_order : IteratesInOrder by_second (spans_second from to) m.store pairs
  pub fills : FillsRows (filter (lies_between from to) (along direction pairs)) count was rows

-- what is written at an end of the order: the row of the entry there; or there is no entry
abbrev pub SaysEnd : (Option (ℕ × Entry) → Type 0) → ℕ → Row → Type 0
SaysEnd finds code row =
    ((code ≡ OK) × ((ix : ℕ) × ((entry : Entry) × finds (Some (ix, entry)) × (row ≡ row_of ix entry))))
    ⊎ ((code ≡ MISSING) × finds None)

-- the first entry in order, and the last one
abbrev pub GetsFirst : ℕ → Row → Items → Type 0
GetsFirst code row m = SaysEnd (FindsFirst by_second m.store) code row

abbrev pub GetsLast : ℕ → Row → Items → Type 0
GetsLast code row m = SaysEnd (FindsLast by_second m.store) code row
