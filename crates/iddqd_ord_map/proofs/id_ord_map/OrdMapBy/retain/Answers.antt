use Rattle.std.proofs.Common.{rules}
use Rattle.std.specs.Fn.{TakesAt, CalledAt}
use Rattle.iddqd_ord_map.specs.KeyOrder.{IsKeyWalk}
use Rattle.iddqd_ord_map.proofs.IntoLemmas.{AsksAlong-first, RetainsAlongTo-asked}
use Rattle.iddqd_ord_map.proofs.RetainLemmas.{MayAskAlong-asks}
use Rattle.iddqd_ord_map.proofs.id_ord_map.OrdMapBy.retain.Goals as goal

pub retain_with-requires-clause-can_ask : goal.retain_with-requires-clause-can_ask
retain_with-requires-clause-can_ask g c =
    let is_walk = IsKeyWalk g.E.OrdKey.key_of g.E.OrdKey.cmp in
    let asks = MayAskAlong-asks (TakesAt g.F.FnMut) (CalledAt g.F.FnMut) is_walk c.args.f c.args.self.now.store c.requires in
    AsksAlong-first is_walk (CalledAt g.F.FnMut) _ c.args.f _ (TakesAt g.F.FnMut) c.args.self.now.store asks (λ p x. search rules)

pub returns-clause-retained : goal.returns-clause-retained
returns-clause-retained g c =
    let is_walk = IsKeyWalk g.E.OrdKey.key_of g.E.OrdKey.cmp in
    let did = c.retain_with.ensures in
    record {
      last = c.retain_with.new.keep;
      retained = RetainsAlongTo-asked is_walk (CalledAt g.F.FnMut) _ c.args.f _ c.args.self.now.store c.retain_with.new.self.store _ did.retained;
      memory = did.memory;
    }
