use Rattle.iddqd.proofs.CloneLemmas.{same_store}
use Rattle.table_uses.proofs.stores.copy_of.Goals as goal

pub returns : goal.returns
returns c = same_store _ (λ x y same. same) _ _ c.in_ok-copy.ensures.cases
