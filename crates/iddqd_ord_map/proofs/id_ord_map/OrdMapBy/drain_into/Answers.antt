use Rattle.std.proofs.Common.{rules, ◌∙◌, ℕ, [], ap, Bool, arith}
use Rattle.iddqd.specs.Store.{Store}
use Rattle.iddqd_keys.proofs.RemovalLemmas.{limit-removed_all}
use Rattle.iddqd_map.specs.Map.{MapMemory}
use Rattle.iddqd_map.specs.Ranges.{GivesItem, TakesItem}
use Rattle.iddqd_map.specs.Retain.{removed_of}
use Rattle.iddqd_ord_map.specs.KeyOrder.{IsKeyWalk}
use Rattle.iddqd_ord_map.proofs.IntoLemmas.{AsksAlong-refused, GivesAlong-refused}
use Rattle.iddqd_ord_map.proofs.RetainLemmas.{MayAskAlong-asks}
use Rattle.iddqd_ord_map.proofs.id_ord_map.OrdMapBy.drain_into.Goals as goal

pub retain_with-requires-clause-can_ask : goal.retain_with-requires-clause-can_ask
retain_with-requires-clause-can_ask g c =
    let s = c.args.self.now.store in
    let is_walk = IsKeyWalk g.E.OrdKey.key_of g.E.OrdKey.cmp in
    let gives = MayAskAlong-asks (TakesItem g.F.FnMut) (λ p x (b : Bool) q. GivesItem g.F.FnMut p x q) is_walk c.args.gone s c.requires in
    AsksAlong-refused is_walk _ _ g.F.FnMut (λ p x. search rules) (λ p x b q called. search rules) _ c.args.gone s gives

pub returns-clause-given : goal.returns-clause-given
returns-clause-given g c =
    let is_walk = IsKeyWalk g.E.OrdKey.key_of g.E.OrdKey.cmp in
    GivesAlong-refused is_walk _ g.F.FnMut _ c.args.gone c.args.self.now.store _ _ c.retain_with.ensures.retained
    (λ p x b q called. search rules)

pub returns-clause-store : goal.returns-clause-store
returns-clause-store g c =
    let did = c.retain_with.ensures.retained in
    let limit = ap (λ (s : Store _). s.limit) did.left ∙ limit-removed_all c.args.self.now.store (removed_of did.asks) in
    c.clear.ensures.store ∙ ap (λ (n : ℕ). record { items = []; free = []; limit = n }) limit

pub returns-clause-room : goal.returns-clause-room
returns-clause-room g c =
    let did = c.retain_with.ensures in
    let limit =
    ap (λ (s : Store _). s.limit) did.retained.left
    ∙ limit-removed_all c.args.self.now.store (removed_of did.retained.asks) in
    let slots = ap (λ (m : MapMemory). m.slots) did.memory in
    let capacity = ap (λ (m : MapMemory). m.capacity) did.memory in
    omega (arith, c.clear.ensures.room, did.count, limit, slots, capacity)
