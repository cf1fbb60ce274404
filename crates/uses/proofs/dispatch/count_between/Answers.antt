use Rattle.uses.proofs.dispatch.count_between.Goals as goal

pub returns : goal.returns
returns c = rw c.within.ensures at c.count_in.ensures
