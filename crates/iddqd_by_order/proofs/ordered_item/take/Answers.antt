use Rattle.iddqd_by_order.proofs.ordered_item.take.Goals as goal

pub returns-in-Occupied-clause-found : goal.returns-in-Occupied-clause-found
returns-in-Occupied-clause-found g c = rw c.remove.ensures.index c.in-Occupied.ensures.made
