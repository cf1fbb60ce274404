use Rattle.iddqd_tri.proofs.TriMemoryLemmas.{Shrinks-made}
use Rattle.iddqd_tri.proofs.tri_items.TriItems.shrink_to.Goals as goal

pub returns-clause-memory : goal.returns-clause-memory
returns-clause-memory g c =
    let left = c.shrink_capacity_to-slots.new.self in
    let after = c.shrink_to-tables.new.self in
    let gave = c.shrink_to-tables.ensures in
    rw (c.and.ensures, ← c.self.view_is)
    (Shrinks-made c.self.inside.items left c.self.inside.tables after c.self.invariant.held c.self.invariant.valid c.args.least c.shrink_capacity_to-slots.result c.shrink_to-tables.result c.shrink_capacity_to-slots.ensures gave.contents gave.memory gave.refused gave.succeeds)
