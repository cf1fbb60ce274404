use Rattle.iddqd_tri.proofs.TriMemoryLemmas.{same_three, table_taken}
use Rattle.iddqd_tri.proofs.tri_tables.TriTables.remove.Goals as goal

pub returns-clause-memory : goal.returns-clause-memory
returns-clause-memory c =
    let one = c.remove_index.ensures in
    let two = c.remove_index-2.ensures in
    let three = c.remove_index-3.ensures in
    same_three _ _ (table_taken _ _ c.args.ix c.requires.first one.taken one.memory one.room) (table_taken _ _ c.args.ix c.requires.second two.taken two.memory two.room) (table_taken _ _ c.args.ix c.requires.third three.taken three.memory three.room)
