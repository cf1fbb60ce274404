use Rattle.std.proofs.Common.{rules}
use Rattle.table_uses.proofs.ordered.move_by.Goals as goal

pub commit_by-requires-clause-leaving : goal.commit_by-requires-clause-leaving
commit_by-requires-clause-leaving g c =
    rw (c.in_ok-prepare_move.ensures.prepared.table, c.in_ok-prepare_move.ensures.prepared.index) c.requires.can_leave

pub commit_by-requires-clause-entering : goal.commit_by-requires-clause-entering
commit_by-requires-clause-entering g c =
    rw (c.in_ok-prepare_move.ensures.prepared.table, c.in_ok-prepare_move.ensures.prepared.index) c.requires.can_enter

pub returns-clause-moved : goal.returns-clause-moved
returns-clause-moved g c =
    let moved = rw (c.in_ok-prepare_move.ensures.prepared.table, c.in_ok-prepare_move.ensures.prepared.index) at c.commit_by.ensures.moved in
    search rules
