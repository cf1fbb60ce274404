use Rattle.std.proofs.Common.{◌-◌}
use Rattle.iddqd.specs.Store.{live_count}
use Rattle.iddqd_map.proofs.BulkLemmas.{Inserting}
use Rattle.iddqd_map.proofs.map.Map.insert_each.Given as goal

abbrev pub invariant-loop-answer : goal.invariant-loop-answer
invariant-loop-answer g l =
    Inserting g.I.Iterator.can_next g.I.Iterator.next_gives g.I.Iterator.remaining g.X.KeyIndex.alike g.X.KeyIndex.grown l.fn.iter l.fn.self l.iter l.self

-- a map has at most as many items as its limit
abbrev pub decreases-loop-answer : goal.decreases-loop-answer
decreases-loop-answer g l = l.self.store.limit - live_count l.self.store
