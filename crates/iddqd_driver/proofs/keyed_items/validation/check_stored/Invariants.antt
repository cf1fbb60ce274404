use Rattle.std.proofs.Common.{IsSome}
use Rattle.std.specs.List.{Contains}
use Rattle.std.specs.FinMap as finite
use Rattle.iddqd_hash.specs.MapHashTable.{filed}
use Rattle.iddqd_order.specs.MapBTreeTable.{order_of}
use Rattle.iddqd_driver.proofs.ValidationLemmas.{Checked}
use Rattle.iddqd_driver.proofs.keyed_items.validation.check_stored.Given as goal

-- each live index is left, or both tables have it
abbrev pub invariant-loop-ix : goal.invariant-loop-ix
invariant-loop-ix g l =
    Checked l.items.store (λ ix _. IsSome (finite.get (filed l.first) ix) × Contains (order_of l.second) ix) l.ix-iterator
