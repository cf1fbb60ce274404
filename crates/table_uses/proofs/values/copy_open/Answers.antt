use Rattle.std.proofs.Common.{rules}
use Rattle.iddqd_hash.proofs.RewriteLemmas.{same_pairs}
use Rattle.table_uses.proofs.values.copy_open.Goals as goal

pub returns : goal.returns
returns c = same_pairs _ (λ x y is. search rules) _ _ c.in_ok-copy.ensures.cases
