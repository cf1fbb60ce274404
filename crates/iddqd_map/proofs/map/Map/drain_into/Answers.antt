use Rattle.std.proofs.Common.{Bool, arith}
use Rattle.iddqd.proofs.StoreLemmas.{IsValid-empty}
use Rattle.iddqd_map.specs.Ranges.{TakesItem, GivesItem}
use Rattle.iddqd_map.proofs.RetainLemmas.{MayAskInTurn-asks}
use Rattle.iddqd_map.proofs.map.Map.drain_into.Goals as goal

pub give_all-requires : goal.give_all-requires
give_all-requires g c =
    rw (← c.self.view_is) at (MayAskInTurn-asks (TakesItem g.F.FnMut) (λ p x (b : Bool) q. GivesItem g.F.FnMut p x q) _ _ c.requires)

pub invariant_of-self : goal.invariant_of-self
invariant_of-self g c =
    let left = c.give_all.new.items.store.limit in
    rw c.clear-2.ensures.store
    (record {
      valid = IsValid-empty left (omega (arith, c.give_all.ensures.limit, c.self.invariant.valid.named));
      indexed = c.clear.ensures.none c.self.inside.state left;
    })
