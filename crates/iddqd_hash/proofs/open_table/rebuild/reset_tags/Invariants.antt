use Rattle.iddqd_hash.proofs.OpenRebuildLemmas.{TagsReset}
use Rattle.iddqd_hash.proofs.open_table.rebuild.reset_tags.Given as goal

abbrev pub invariant-loop-at : goal.invariant-loop-at
invariant-loop-at l = TagsReset l.fn.tags l.tags l.at
