use Rattle.std.proofs.Common.{take}
use Rattle.std.specs.Fn.{TakesAt, CalledAt}
use Rattle.iddqd_hash.specs.Asks.{CanAsk, AllRefused}
use Rattle.iddqd_hash.specs.HashTable.{under}
use Rattle.iddqd_hash.proofs.hash_table_reference.find_place.Given as goal

abbrev pub invariant-loop-place : goal.invariant-loop-place
invariant-loop-place g l =
    CanAsk (TakesAt g.F.FnMut) (CalledAt g.F.FnMut) l.eq (under l.hash l.pairs)
    × AllRefused (CalledAt g.F.FnMut) l.fn.eq (under l.hash (take l.place l.pairs)) l.eq
