use Rattle.std.proofs.Common.{◌≡◌, ◌+◌, ◌-◌, min, subst, arith}
use Rattle.iddqd_tri.specs.TriMemory.{no_memory, Grows}
use Rattle.iddqd_tri.proofs.tri_items.TriItems.with_capacity.Goals as goal

pub returns-clause-few : goal.returns-clause-few
returns-clause-few g c =
    let grows = rw (c.new-items.ensures.empty, c.new-items.ensures.memory) at c.in_ok-reserve.ensures.memory.grows in
    let all : 0 + min c.args.capacity (4294967295 - 0) ≡ min c.args.capacity 4294967295 = omega arith in
    subst (λ n. Grows 4294967295 n no_memory c.reserve.new.self.memory) all grows
