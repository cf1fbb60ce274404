use Rattle.iddqd_tri.proofs.TriMemoryLemmas.{same_three, table_none}
use Rattle.iddqd_tri.proofs.tri_tables.TriTables.new.Goals as goal

pub returns-clause-memory : goal.returns-clause-memory
returns-clause-memory c =
    same_three _ _ (table_none _ c.new.ensures.empty c.new.ensures.memory) (table_none _ c.new-2.ensures.empty c.new-2.ensures.memory) (table_none _ c.new-3.ensures.empty c.new-3.ensures.memory)
