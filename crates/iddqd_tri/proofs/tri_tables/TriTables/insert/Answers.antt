use Rattle.iddqd_tri.proofs.TriMemoryLemmas.{same_three, table_filed}
use Rattle.iddqd_tri.proofs.tri_tables.TriTables.insert.Goals as goal

pub returns-clause-memory : goal.returns-clause-memory
returns-clause-memory c =
    let one = c.insert_prehashed_unchecked.ensures in
    let two = c.insert_prehashed_unchecked-2.ensures in
    let three = c.insert_prehashed_unchecked-3.ensures in
    same_three _ _ (table_filed _ _ c.args.ix c.args.hashes.first c.requires.new.first one.added one.memory) (table_filed _ _ c.args.ix c.args.hashes.second c.requires.new.second two.added two.memory) (table_filed _ _ c.args.ix c.args.hashes.third c.requires.new.third three.added three.memory)
