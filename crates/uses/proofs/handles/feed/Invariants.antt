use Rattle.std.proofs.Common.{◌≡◌, length}
use Rattle.std.specs.List.{fold}
use Rattle.std.specs.Str.{str_to_ascii_lowercase}
use Rattle.uses.specs.Handles.{writes}
use Rattle.uses.proofs.handles.feed.Given as goal

abbrev pub invariant-feeding : goal.invariant-feeding
invariant-feeding g l =
    fold g.H.Hasher.write l.fn.state (writes (str_to_ascii_lowercase l.fn.text))
    ≡ fold g.H.Hasher.write l.state (writes (str_to_ascii_lowercase l.left))

abbrev pub decreases-feeding : goal.decreases-feeding
decreases-feeding g l = length l.left
