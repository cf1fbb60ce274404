use Rattle.uses.proofs.scores.between.Goals as goal

pub returns : goal.returns
returns c = rw (c.new.ensures.start, c.new.ensures.end) at c.range.ensures
