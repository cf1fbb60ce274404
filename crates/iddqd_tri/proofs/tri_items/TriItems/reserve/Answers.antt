use Rattle.std.proofs.Common.{◌≡◌, ◌+◌, ◌-◌, min, ap, subst, arith}
use Rattle.iddqd.specs.Store.{live_count}
use Rattle.iddqd.specs.ItemSet.{SizedStore}
use Rattle.iddqd_tri.specs.TriMemory.{ReservesItems, SlotsGrow}
use Rattle.iddqd_tri.specs.TriTables.{sized_tri_of}
use Rattle.iddqd_tri.proofs.TriMemoryLemmas.{ReservesItems-made}
use Rattle.iddqd_tri.proofs.tri_items.TriItems.reserve.Goals as goal

pub returns : goal.returns
returns g c =
    let items = c.self.inside.items in
    let left = c.reserve_slots.new.self in
    let tables = c.self.inside.tables in
    let after = c.reserve.new.self in
    let live = live_count items.store in
    let more : c.min-more.result ≡ min c.args.additional (items.store.limit - live) = omega arith in
    let len : c.len-len.result ≡ live = c.len-len.ensures in
    let slots : SlotsGrow items.store.limit (live + min c.args.additional (items.store.limit - live)) items.capacity left.capacity = record {
      had_room = λ fits. ap (λ (s : SizedStore _). s.capacity) (c.reserve_slots.ensures.unchanged (omega (arith, fits, more, len)));
      slots_at_least = c.reserve_slots.ensures.capacity_at_least;
      few = omega (arith, c.reserve_slots.ensures.few, more, len);
    } in
    let enough = rw (more, len) at c.in_ok-reserve_slots.ensures.reserved in
    let grow = rw more at c.reserve.ensures.memory in
    let roomy = rw more at c.reserve.ensures.room in
    let had = rw more at c.reserve.ensures.had_room in
    record {
      memory =
          subst (λ t. ReservesItems c.args.additional t c.reserve.result (sized_tri_of c.self.inside.state left after)) c.self.view_is
          (ReservesItems-made c.self.inside.state items left tables after c.self.invariant.held c.reserve_slots.ensures.contents c.reserve.ensures.contents c.self.invariant.valid c.args.additional c.reserve.result slots enough grow roomy had);
    }
