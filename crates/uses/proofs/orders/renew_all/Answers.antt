use Rattle.uses.proofs.orders.renew_all.Goals as goal

pub overwrite_all-requires-clause-given : goal.overwrite_all-requires-clause-given
overwrite_all-requires-clause-given g c = λ may. may c.requires.given
