use Rattle.std.proofs.Common.{◌≡◌, ◌+◌, ◌-◌, ◌<◌, ◌≤◌, max, OnOk, subst, arith, vec_len, vec_capacity}
use Rattle.std.proofs.lemmas.List.Sorted.{IsPermutation-refl}
use Rattle.iddqd_hash.proofs.CellLemmas.{entries-listed, room-listed, Reserves-unneeded, Reserves-denied, Reserves-listed}
use Rattle.iddqd_hash.proofs.hash_table_reference.HashTable.try_reserve.Goals as goal

pub returns-then-additional-room-clause-memory : goal.returns-then-additional-room-clause-memory
returns-then-additional-room-clause-memory g c = Reserves-unneeded _ _ _ (omega (arith, c.room.ensures))

pub returns-in_err-needed-clause-memory : goal.returns-in_err-needed-clause-memory
returns-in_err-needed-clause-memory g c =
    Reserves-denied _ _ c.from_residual.result c.from_residual.ensures.0 (omega (arith, c.room.ensures))

pub returns-clause-contents : goal.returns-clause-contents
returns-clause-contents g c =
    rw (← c.self.view_is, entries-listed, entries-listed, c.try_reserve_exact.ensures.items) (IsPermutation-refl _)

pub returns-clause-memory : goal.returns-clause-memory
returns-clause-memory g c =
    let short : vec_capacity c.self.inside.pairs - vec_len c.self.inside.pairs < c.args.additional =
    rw (c.room.ensures, ← c.self.view_is, room-listed) at c.if-additional-room.false in
    let needed = rw c.in_ok-needed.ensures.ok_part at c.checked_add.ensures in
    let enough : vec_len c.self.inside.pairs + c.args.additional ≤ c.max-wanted.result = omega (arith, needed.1) in
    let wanted : vec_len c.self.inside.pairs + (c.max-wanted.result - c.len-len.result) ≡ c.max-wanted.result =
    omega arith in
    let exact =
    subst (λ n. OnOk c.try_reserve_exact.result (vec_capacity c.try_reserve_exact.new.self ≡ max (vec_capacity c.self.inside.pairs) n)) wanted c.try_reserve_exact.ensures.capacity_exact in
    rw (← c.self.view_is, c.try_reserve_exact.ensures.items)
    (Reserves-listed _ _ _ _ _ c.max-wanted.result _ (omega arith) short (omega arith) c.try_reserve_exact.ensures.len enough (omega (arith, needed.1)) c.try_reserve_exact.ensures.capacity
    c.try_reserve_exact.result exact c.try_reserve_exact.ensures.err)
