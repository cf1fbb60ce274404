use Rattle.iddqd.proofs.StoreLemmas.{IsValid-empty}
use Rattle.iddqd_map.proofs.map.Map.clear.Goals as goal

pub invariant_of-self : goal.invariant_of-self
invariant_of-self g c =
    let s = c.self.inside.items.store in
    record {
      valid = rw c.clear.ensures.store (IsValid-empty s.limit c.self.invariant.valid.named);
      indexed = rw c.clear.ensures.store (c.clear-2.ensures.none c.self.inside.state s.limit);
    }
