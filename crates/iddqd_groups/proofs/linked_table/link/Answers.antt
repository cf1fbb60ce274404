use Rattle.std.proofs.Common.{◌∙◌, ap}
use Rattle.std.specs.FinMap as finite
use Rattle.iddqd_hash.specs.{filed}
use Rattle.iddqd_groups.specs.Links.{filed_by}
use Rattle.iddqd_groups.proofs.LinkLemmas.{head_under, none_under, head_filed, follower_filed, unfiled_head, AreHeadsOf-put_alone, AreHeadsOf-put_behind}
use Rattle.iddqd_groups.proofs.linked_table.link.Goals as goal

pub insert_behind-requires-clause-head : goal.insert_behind-requires-clause-head
insert_behind-requires-clause-head c =
    let led =
    head_under (filed c.args.heads.now) c.args.hash _ c.in-Some.head _ c.indexes_under.ensures
    c.in-Some.ensures.steps in
    head_filed _ _ c.requires.linked c.in-Some.head c.args.hash led

pub insert_behind-requires-clause-follower : goal.insert_behind-requires-clause-follower
insert_behind-requires-clause-follower c = λ there.
    let led =
    head_under (filed c.args.heads.now) c.args.hash _ c.in-Some.head _ c.indexes_under.ensures
    c.in-Some.ensures.steps in
    follower_filed _ _ c.requires.linked c.in-Some.head c.args.hash led there

pub insert_prehashed_unchecked-requires-clause-new : goal.insert_prehashed_unchecked-requires-clause-new
insert_prehashed_unchecked-requires-clause-new c = unfiled_head _ _ c.requires.linked c.args.ix c.requires.new

pub returns-in-Some-clause-linked : goal.returns-in-Some-clause-linked
returns-in-Some-clause-linked c =
    let led =
    head_under (filed c.args.heads.now) c.args.hash _ c.in-Some.head _ c.indexes_under.ensures
    c.in-Some.ensures.steps in
    AreHeadsOf-put_behind _ _ c.requires.linked c.args.ix c.args.hash c.requires.new c.requires.not_sentinel _
    c.insert_behind.ensures.filed c.in-Some.head led c.insert_behind.ensures.next c.insert_behind.ensures.prev

pub returns-in-None-clause-linked : goal.returns-in-None-clause-linked
returns-in-None-clause-linked c =
    let none = none_under (filed c.args.heads.now) c.args.hash _ c.indexes_under.ensures c.in-None.ensures.steps.0 in
    let filed_new =
    c.put.ensures.filed ∙ ap (finite.insert (filed_by c.args.links.now.items) c.args.ix) c.hash.ensures in
    rw c.insert_prehashed_unchecked.ensures.added
    (AreHeadsOf-put_alone _ _ c.requires.linked c.args.ix c.args.hash c.requires.new c.requires.not_sentinel _ filed_new none
    c.put.ensures.next c.put.ensures.prev)
