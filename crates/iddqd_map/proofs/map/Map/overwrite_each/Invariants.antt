use Rattle.std.specs.Iterator.{size}
use Rattle.iddqd_map.proofs.DisplaceLemmas.{Overwriting}
use Rattle.iddqd_map.proofs.map.Map.overwrite_each.Given as goal

abbrev pub invariant-loop-answer : goal.invariant-loop-answer
invariant-loop-answer g l =
    Overwriting g.I.Iterator.can_next g.I.Iterator.next_gives g.I.Iterator.remaining g.G.FnMut g.X.KeyIndex.alike g.X.KeyIndex.grown l.fn.iter l.fn.self l.fn.gone l.iter l.self l.gone l.inserted

abbrev pub decreases-loop-answer : goal.decreases-loop-answer
decreases-loop-answer g l = size (g.I.Iterator.remaining l.iter)
