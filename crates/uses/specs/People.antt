-- People by year of birth and by name.
use Rattle.std.specs.Prelude.{◌/◌, ℕ, Bool, List}
use Rattle.std.specs.Cmp.Lexicographic.{slice_cmp}
use Rattle.std.specs.Ordering.{eq_by_cmp, is_eq, nat_cmp}
use Rattle.std.specs.String.{string_bytes}
use Rattle.std.specs.declared.cmp.Ordering.{Ordering}
use Rattle.iddqd_maps.specs.Beginnings.{begin_cmp}
use Rattle.uses.specs.declared.people.Person.{Person}

-- how two people compare by the years of their births
abbrev pub by_year : Person → Person → Ordering
by_year x y = nat_cmp (x.born / 10000) (y.born / 10000)

-- how two people compare by their names
abbrev pub by_name : Person → Person → Ordering
by_name x y = slice_cmp nat_cmp (string_bytes x.name) (string_bytes y.name)

-- the person was born in this year
abbrev pub was_born : ℕ → Person → Bool
was_born year person = eq_by_cmp nat_cmp year (person.born / 10000)

-- the person's name begins with this text
abbrev pub begins : List ℕ → Person → Bool
begins text person = is_eq (begin_cmp text (string_bytes person.name))
