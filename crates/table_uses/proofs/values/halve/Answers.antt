use Rattle.std.proofs.Common.{◌/◌, rules}
use Rattle.iddqd_hash.proofs.RewriteLemmas.{Rewrites-mapped}
use Rattle.table_uses.proofs.values.halve.Goals as goal

pub returns : goal.returns
returns c = Rewrites-mapped _ (λ v. v / 2) (λ v w given. search rules) _ _ c.rewrite.ensures.rewritten
