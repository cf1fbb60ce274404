use Rattle.iddqd.proofs.LiveLemmas.{live_at}
use Rattle.iddqd_groups.proofs.in_groups.MapInGroups.hashed_group_by.Goals as goal

pub new-requires : goal.new-requires
new-requires g c = λ ix here.
    let (item, is, passed) = (c.group_at.ensures.hits.each ix).0 here in
    live_at c.parts-2.inside.items.now.store ix item is
