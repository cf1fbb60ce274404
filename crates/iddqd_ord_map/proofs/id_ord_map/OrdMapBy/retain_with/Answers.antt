use Rattle.std.proofs.Common.{◌∙◌, ◌-◌, sym, ap, subst}
use Rattle.std.specs.Fn.{TakesAt, CalledAt}
use Rattle.iddqd_map.specs.Bulk.{AsksAndGives, TakesBoth}
use Rattle.iddqd_map.specs.Map.{MapState}
use Rattle.iddqd_ord_map.specs.KeyOrder.{IsKeyWalk}
use Rattle.iddqd_ord_map.specs.Retain.{AsksAlong}
use Rattle.iddqd_ord_map.proofs.id_ord_map.OrdMapBy.retain_with.Goals as goal

pub retain_in-requires-clause-can_ask : goal.retain_in-requires-clause-can_ask
retain_in-requires-clause-can_ask g c =
    let same = ap (λ (m : MapState _). m.store) (c.into_parts-items.ensures.map ∙ c.replace.ensures.value ∙ c.self.view_is) in
    let is_walk = IsKeyWalk g.E.OrdKey.key_of g.E.OrdKey.cmp in
    let takes = TakesBoth g.G.FnMut (TakesAt g.F.FnMut) in
    let ask = AsksAndGives g.G.FnMut (CalledAt g.F.FnMut) in
    subst (AsksAlong is_walk takes ask (c.args.keep.now, c.args.gone.now)) (sym same) c.requires.can_ask

pub returns-clause-retained : goal.returns-clause-retained
returns-clause-retained g c =
    let same = c.into_parts-items.ensures.map ∙ c.replace.ensures.value ∙ c.self.view_is in
    rw (c.from_parts.ensures, ← same) c.retain_in.ensures.retained

pub returns-clause-memory : goal.returns-clause-memory
returns-clause-memory g c =
    let same = c.into_parts-items.ensures.map ∙ c.replace.ensures.value ∙ c.self.view_is in
    let did = c.retain_in.ensures in
    rw (c.from_parts.ensures, ← same)
    (λ i. record { slots = did.slots i; capacity = did.memory i - 10; cells = did.memory i - 10 })
