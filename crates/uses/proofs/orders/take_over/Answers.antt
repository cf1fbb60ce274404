use Rattle.uses.proofs.orders.take_over.Goals as goal

pub append-requires : goal.append-requires
append-requires g c = λ may. may c.requires
