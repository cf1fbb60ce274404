-- The keys of an entry, as tests and as an order.
use Rattle.std.specs.Prelude.{◌≡◌, ℕ, Bool, false, List}
use Rattle.std.specs.Ordering.{nat_cmp, eq_by_cmp}
use Rattle.std.specs.Str.{bytes_eq}
use Rattle.std.specs.declared.cmp.Ordering.{Ordering}
use Rattle.iddqd_c.specs.declared.entry.Entry.{Entry}

-- the entry's first key has these bytes
abbrev pub has_first : List ℕ → Entry → Bool
has_first bytes entry = bytes_eq bytes entry.first.bytes.items

-- the entry has this second key
abbrev pub has_second : ℕ → Entry → Bool
has_second second entry = eq_by_cmp nat_cmp second entry.second

-- no entry stands in the way of a second key that several items may share
abbrev pub never : ℕ → Entry → Bool
never second entry = false

-- how two entries compare by their second keys
abbrev pub by_second : Entry → Entry → Ordering
by_second x y = nat_cmp x.second y.second

-- how a second key compares with that of an entry
abbrev pub compares_second : ℕ → Entry → Ordering
compares_second second entry = nat_cmp second entry.second

-- the entry has these keys and this value
pub record IsEntry (bytes : List ℕ) (second value : ℕ) (entry : Entry) : Type 0 where
  pub has_bytes : entry.first.bytes.items ≡ bytes
  pub has_second : entry.second ≡ second
  pub has_value : entry.value ≡ value
