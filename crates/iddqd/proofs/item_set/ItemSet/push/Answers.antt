use Rattle.std.specs.Vec.{vec_capacity}
use Rattle.std.proofs.Common.{ap, arith}
use Rattle.iddqd.proofs.SlotLemmas.{len_below, head_at_end, fits_at_end, pushed-is, IsSoundWithin-push}
use Rattle.iddqd.proofs.item_set.ItemSet.push.Goals as goal

pub overflow_add-self : goal.overflow_add-self
overflow_add-self g c =
    let below = len_below c.self.invariant (vec_capacity c.self.inside.slots) (rw (← c.self.view_is) at c.requires.room) in
    omega (arith, below)

pub push_reserved-requires : goal.push_reserved-requires
push_reserved-requires g c =
    let ends = head_at_end c.self.invariant (rw (← c.self.view_is) at c.requires.dense) in
    let fits = fits_at_end c.self.invariant (vec_capacity c.self.inside.slots) (rw (← c.self.view_is) at c.requires.room) ends in
    omega (arith, fits.1)

pub invariant_of-self : goal.invariant_of-self
invariant_of-self g c =
    let ends = head_at_end c.self.invariant (rw (← c.self.view_is) at c.requires.dense) in
    let fits = fits_at_end c.self.invariant (vec_capacity c.self.inside.slots) (rw (← c.self.view_is) at c.requires.room) ends in
    rw c.push_reserved.ensures.items (IsSoundWithin-push c.self.invariant c.args.item ends fits.0)

pub returns : goal.returns
returns g c =
    let ends = head_at_end c.self.invariant (rw (← c.self.view_is) at c.requires.dense) in
    let fits = fits_at_end c.self.invariant (vec_capacity c.self.inside.slots) (rw (← c.self.view_is) at c.requires.room) ends in
    rw (← c.self.view_is, c.push_reserved.ensures.items, c.push_reserved.ensures.capacity)
    (ap (λ s. record { store = s; capacity = vec_capacity c.self.inside.slots }) (pushed-is c.self.invariant c.args.item ends fits.0))
