use Rattle.iddqd_hash.proofs.MemberLemmas.{get-remove_at}
use Rattle.iddqd_groups.proofs.linked_steps.commit_move.Goals as goal

pub insert-requires-clause-new : goal.insert-requires-clause-new
insert-requires-clause-new g c = rw c.remove.ensures.removed (get-remove_at c.args.table.now.filed c.args.ix)
