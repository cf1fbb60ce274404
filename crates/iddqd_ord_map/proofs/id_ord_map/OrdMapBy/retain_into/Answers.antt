use Rattle.std.proofs.Common.{◌∙◌, ap, arith}
use Rattle.std.specs.Fn.{TakesAt, CalledAt}
use Rattle.iddqd.specs.Store.{Store}
use Rattle.iddqd_keys.proofs.RemovalLemmas.{limit-removed_all}
use Rattle.iddqd_map.specs.Bulk.{GivesIfRefused}
use Rattle.iddqd_map.specs.Map.{MapMemory}
use Rattle.iddqd_map.specs.Ranges.{TakesItem}
use Rattle.iddqd_map.specs.Retain.{removed_of}
use Rattle.iddqd_ord_map.specs.KeyOrder.{IsKeyWalk}
use Rattle.iddqd_ord_map.proofs.IntoLemmas.{AsksAlong-both, GivesRefusedAlong-both, RetainsAlongTo-asked}
use Rattle.iddqd_ord_map.proofs.RetainLemmas.{MayAskAlong-asks}
use Rattle.iddqd_ord_map.proofs.id_ord_map.OrdMapBy.retain_into.Goals as goal

pub retain_with-requires-clause-can_ask : goal.retain_with-requires-clause-can_ask
retain_with-requires-clause-can_ask g c =
    let s = c.args.self.now.store in
    let is_walk = IsKeyWalk g.E.OrdKey.key_of g.E.OrdKey.cmp in
    let asks = MayAskAlong-asks (TakesAt g.F.FnMut) (CalledAt g.F.FnMut) is_walk c.args.keep s c.requires.asked in
    let gives = MayAskAlong-asks (TakesItem g.G.FnMut) (GivesIfRefused g.G.FnMut) is_walk c.args.gone s c.requires.given in
    AsksAlong-both is_walk (CalledAt g.F.FnMut) g.G.FnMut c.args.keep c.args.gone (TakesAt g.F.FnMut) s asks gives

pub returns-clause-retained : goal.returns-clause-retained
returns-clause-retained g c =
    let is_walk = IsKeyWalk g.E.OrdKey.key_of g.E.OrdKey.cmp in
    let did = c.retain_with.ensures in
    record {
      last = c.retain_with.new.keep;
      retained = RetainsAlongTo-asked is_walk (CalledAt g.F.FnMut) g.G.FnMut c.args.keep c.args.gone c.args.self.now.store c.retain_with.new.self.store _ did.retained;
      memory = did.memory;
    }

pub returns-clause-given : goal.returns-clause-given
returns-clause-given g c =
    let is_walk = IsKeyWalk g.E.OrdKey.key_of g.E.OrdKey.cmp in
    GivesRefusedAlong-both is_walk (CalledAt g.F.FnMut) g.G.FnMut c.args.keep c.args.gone c.args.self.now.store c.retain_with.new.self.store _ c.retain_with.ensures.retained

pub returns-clause-room : goal.returns-clause-room
returns-clause-room g c =
    let did = c.retain_with.ensures in
    let limit = ap (λ (s : Store _). s.limit) did.retained.left ∙ limit-removed_all c.args.self.now.store (removed_of did.retained.asks) in
    omega (arith, did.count, limit, ap (λ (m : MapMemory). m.slots) did.memory, ap (λ (m : MapMemory). m.capacity) did.memory)
