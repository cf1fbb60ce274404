use Rattle.iddqd_map.proofs.by_hash.ByHashOfChanges.make_room.Goals as goal

pub returns-clause-contents : goal.returns-clause-contents
returns-clause-contents g c = λ state s is. rw c.make_room.ensures.contents is
