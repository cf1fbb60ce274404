use Rattle.std.proofs.Common.{◌≡◌, arith}
use Rattle.iddqd_hash.specs.HashTable.{capacity as hashed_capacity}
use Rattle.iddqd_driver.proofs.KeepsLemmas.{IsPaired-empty}
use Rattle.iddqd_driver.proofs.MemoryLemmas.{length-entries_of_none}
use Rattle.iddqd_driver.proofs.keyed_items.KeyedItems.with_limit.Goals as goal

pub invariant_of-result : goal.invariant_of-result
invariant_of-result g c =
    rw (c.with_limit.ensures, c.new.ensures.empty, c.new-2.ensures.empty) (IsPaired-empty c.args.limit _ (omega arith))

pub returns-clause-memory : goal.returns-clause-memory
returns-clause-memory g c =
    let none = length-entries_of_none c.new.result c.new.ensures.empty in
    let bare = c.new.ensures.memory in
    let held : hashed_capacity c.new.result ≡ 0 = omega (arith, none, bare.no_room) in
    rw (c.with_limit.ensures, held, bare.no_cell, c.new-2.ensures.memory)
