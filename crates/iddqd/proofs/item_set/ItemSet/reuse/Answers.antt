use Rattle.std.specs.Vec.{vec_capacity}
use Rattle.std.proofs.Common.{Some, sym, ap, ◌∙◌, arith}
use Rattle.iddqd.proofs.SlotLemmas.{len_below, first_within, first_not_occupied, read_at_first, reused_first-is, IsSoundWithin-reuse_first}
use Rattle.iddqd.proofs.item_set.ItemSet.reuse.Goals as goal

pub overflow_add-self : goal.overflow_add-self
overflow_add-self g c =
    let below = len_below c.self.invariant (vec_capacity c.self.inside.slots) (rw (← c.self.view_is) at c.requires.room) in
    omega (arith, below)

pub index_mut-requires : goal.index_mut-requires
index_mut-requires g c =
    let within = first_within c.self.invariant c.args.ix (rw (← c.self.view_is) at c.requires.first) in
    omega (arith, within)

pub unreachable-requires : goal.unreachable-requires
unreachable-requires g c =
    let first = rw (← c.self.view_is) at c.requires.first in
    let read = read_at_first c.self.invariant c.args.ix first _ (rw c.as_u32.ensures at c.index_mut.ensures.value) in
    first_not_occupied c.self.invariant c.args.ix first _ (read ∙ ap Some (sym c.replace.ensures.value ∙ c.in-Occupied.is))

pub invariant_of-self : goal.invariant_of-self
invariant_of-self g c =
    let first = rw (← c.self.view_is) at c.requires.first in
    let read = read_at_first c.self.invariant c.args.ix first _ (rw c.as_u32.ensures at c.index_mut.ensures.value) in
    let there = read ∙ ap Some (sym c.replace.ensures.value ∙ c.in-Vacant.is) in
    rw (c.replace.ensures.after, c.as_u32.ensures) (IsSoundWithin-reuse_first c.self.invariant c.args.ix first _ c.args.item there)

pub returns : goal.returns
returns g c =
    let first = rw (← c.self.view_is) at c.requires.first in
    let read = read_at_first c.self.invariant c.args.ix first _ (rw c.as_u32.ensures at c.index_mut.ensures.value) in
    let there = read ∙ ap Some (sym c.replace.ensures.value ∙ c.in-Vacant.is) in
    rw (← c.self.view_is, c.replace.ensures.after, c.as_u32.ensures)
    (ap (λ s. record { store = s; capacity = vec_capacity c.self.inside.slots }) (reused_first-is c.self.invariant c.args.ix first _ c.args.item there))
