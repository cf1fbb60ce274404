use Rattle.std.proofs.Common.{length}
use Rattle.iddqd_groups.proofs.GroupLemmas.{bounds-fewer, length-kept}
use Rattle.iddqd_groups.proofs.hashed_group.GroupIterator.size_hint.Goals as goal

pub returns-clause-upper : goal.returns-clause-upper
returns-clause-upper g c =
    rw (← c.self.view_is) (bounds-fewer c.size_hint.result.1 (length c.self.inside.indexes.rest) _
    (length-kept _ c.self.inside.indexes.rest) c.size_hint.ensures.upper)
