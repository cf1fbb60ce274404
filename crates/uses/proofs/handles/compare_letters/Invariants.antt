use Rattle.std.proofs.Common.{◌≡◌, length}
use Rattle.std.specs.Cmp.Lexicographic.{slice_cmp}
use Rattle.std.specs.Ordering.{nat_cmp}
use Rattle.std.specs.Str.{str_to_ascii_lowercase}
use Rattle.uses.proofs.handles.compare_letters.Given as goal

abbrev pub invariant-comparing : goal.invariant-comparing
invariant-comparing l =
    slice_cmp nat_cmp (str_to_ascii_lowercase l.fn.one) (str_to_ascii_lowercase l.fn.other)
    ≡ slice_cmp nat_cmp (str_to_ascii_lowercase l.left) (str_to_ascii_lowercase l.right)

abbrev pub decreases-comparing : goal.decreases-comparing
decreases-comparing l = length l.left
