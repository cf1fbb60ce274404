use Rattle.iddqd_hash.specs.{filed}
use Rattle.iddqd_groups.proofs.UnlinkLemmas.{none_left}
use Rattle.iddqd_groups.proofs.linked_table.removals.replace_head.Goals as goal

pub insert_prehashed_unchecked-requires-clause-new : goal.insert_prehashed_unchecked-requires-clause-new
insert_prehashed_unchecked-requires-clause-new c =
    rw c.remove_index.ensures.taken (none_left (filed c.args.heads.now) c.args.head c.args.next c.requires.new)
