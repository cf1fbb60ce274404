use Rattle.std.proofs.Common.{◌≡◌, ◌≤◌, ◌-◌, vec_len, vec_capacity}
use Rattle.std.specs.Fn.{TakesAt, CalledAt}
use Rattle.iddqd_hash.specs.Asks.{CanAsk}
use Rattle.iddqd_hash.specs.HashTable.{values}
use Rattle.iddqd_hash.proofs.RetainLemmas.{Retaining}
use Rattle.iddqd_hash.proofs.hash_table_reference.retain_pairs.Given as goal

abbrev pub invariant-loop-place : goal.invariant-loop-place
invariant-loop-place g l =
    (vec_len l.pairs ≤ vec_len l.fn.pairs)
    × (vec_capacity l.pairs ≡ vec_capacity l.fn.pairs)
    × CanAsk (TakesAt g.F.FnMut) (CalledAt g.F.FnMut) l.f (values l.fn.pairs.items)
    × Retaining (CalledAt g.F.FnMut) l.fn.f l.fn.pairs.items l.f l.pairs.items l.place

abbrev pub decreases-loop-place : goal.decreases-loop-place
decreases-loop-place g l = vec_len l.pairs - l.place
