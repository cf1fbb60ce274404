use Rattle.std.proofs.Common.{rules}
use Rattle.iddqd.specs.Compaction.{remapped}
use Rattle.iddqd_hash.specs.MapHashTable.{filed}
use Rattle.iddqd_hash.proofs.RenameLemmas.{distinct_renamed, Renames-from_rewrites}
use Rattle.iddqd_hash.proofs.hash_table.MapHashTable.remap_indexes.Goals as goal

pub invariant_of-self : goal.invariant_of-self
unfolding filed
invariant_of-self c =
    distinct_renamed (remapped c.args.remap.now) _ (λ v w given. search rules) _ _ c.self.invariant (rw (← c.self.view_is) at c.requires.distinct) c.rewrite.ensures.rewritten

pub returns-clause-renamed : goal.returns-clause-renamed
unfolding filed
returns-clause-renamed c =
    rw (← c.self.view_is) (Renames-from_rewrites (remapped c.args.remap.now) _ (λ v w given. search rules) _ _ c.self.invariant (rw (← c.self.view_is) at c.requires.distinct) c.rewrite.ensures.rewritten)
