use Rattle.std.proofs.Common.{Bool, arith}
use Rattle.iddqd_keys.specs.Bounds.{is_in_bounds}
use Rattle.iddqd_map.specs.Ranges.{TakesItem, GivesItem}
use Rattle.iddqd_map.proofs.RangeRetainLemmas.{MayAskWithin-asks}
use Rattle.iddqd_map.proofs.RetainLemmas.{same_memory}
use Rattle.iddqd_map.proofs.map.Map.remove_range_by.Goals as goal

pub remove_within-requires-clause-can_give : goal.remove_within-requires-clause-can_give
remove_within-requires-clause-can_give g c =
    let within = is_in_bounds g.X.OrderedAt.compare (g.R.IntoBounds.bounds c.args.range) in
    rw (← c.self.view_is, ← c.into_bounds-bounds.ensures) at
    (MayAskWithin-asks g.X.OrderedAt.order within (TakesItem g.F.FnMut) (λ p x (b : Bool) q. GivesItem g.F.FnMut p x q)
    c.args.f c.args.self.now.store c.requires)

pub overflow_sub-result : goal.overflow_sub-result
overflow_sub-result g c = omega (arith, c.remove_within.ensures.fewer, c.len.ensures, c.len-before.ensures)

pub returns-clause-memory : goal.returns-clause-memory
returns-clause-memory g c =
    let did = c.remove_within.ensures in
    rw (← c.self.view_is) (same_memory did.slots did.capacity did.cells)

pub returns-clause-room : goal.returns-clause-room
returns-clause-room g c =
    let did = c.remove_within.ensures in
    rw (← c.self.view_is) (omega (arith, did.fewer, did.limit, did.slots, did.capacity))

pub returns-clause-count : goal.returns-clause-count
returns-clause-count g c =
    rw (← c.self.view_is) (omega (arith, c.remove_within.ensures.fewer, c.len.ensures, c.len-before.ensures))

pub returns-clause-freed : goal.returns-clause-freed
returns-clause-freed g c =
    let did = c.remove_within.ensures in
    rw (← c.self.view_is)
    (λ within. omega (
      arith,
      within,
      did.fewer,
      did.limit,
      did.slots,
      did.capacity,
      c.len.ensures,
      c.len-before.ensures,
    ))
