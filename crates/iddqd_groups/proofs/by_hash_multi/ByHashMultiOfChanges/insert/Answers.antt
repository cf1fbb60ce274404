use Rattle.iddqd_by_hash.proofs.HoldsLemmas.{next_unfiled}
use Rattle.iddqd_groups.proofs.FilesLemmas.{FilesWithin-inserted, next_in_turn}
use Rattle.iddqd_groups.proofs.by_hash_multi.ByHashMultiOfChanges.insert.Goals as goal

pub insert-requires-clause-in_turn : goal.insert-requires-clause-in_turn
insert-requires-clause-in_turn g c = λ past.
    let (state, (s, is, valid, next)) = c.requires.next in
    rw next (next_in_turn _ _ s c.args.self.now.table is valid (rw (← next) past))

pub insert-requires-clause-new : goal.insert-requires-clause-new
insert-requires-clause-new g c =
    let (state, (s, is, valid, next)) = c.requires.next in
    rw next (next_unfiled s c.args.self.now.table.filed is.files.held valid)

pub returns-clause-indexed : goal.returns-clause-indexed
returns-clause-indexed g c = λ state s item is valid not_full next none known plan.
    FilesWithin-inserted _ _ s c.args.self.now.table is c.insert.new.self item valid
    (rw (← next, ← known) c.insert.ensures.added) (rw (← next) c.insert.ensures.slots)
