use Rattle.iddqd.proofs.StoreLemmas.{contains_tail}
use Rattle.iddqd_groups.proofs.in_groups.GroupItemsIterator.next.Goals as goal

pub invariant_of-self-2 : goal.invariant_of-self-2
invariant_of-self-2 g c = λ ix here.
    c.self.invariant ix (rw c.in_ok-ix.ensures.steps (contains_tail _ ix _ here))
