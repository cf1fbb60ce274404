use Rattle.uses.proofs.dispatch.count_of.Goals as goal

pub returns : goal.returns
returns c = rw c.having.ensures at c.count_in.ensures
