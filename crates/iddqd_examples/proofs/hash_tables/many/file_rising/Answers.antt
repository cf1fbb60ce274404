use Rattle.std.proofs.Common.{◌≡◌, false, true, arith}
use Rattle.std.specs.FinMap as finite
use Rattle.iddqd_hash.proofs.FiledLemmas.{AllBelow-fresh, AllBelow-insert}
use Rattle.iddqd_examples.proofs.hash_tables.many.file_rising.Goals as goal

pub insert_prehashed_unchecked-requires-clause-new : goal.insert_prehashed_unchecked-requires-clause-new
insert_prehashed_unchecked-requires-clause-new c =
    rw (c.new-in-loop-number.ensures) (AllBelow-fresh _ _ c.loop-number.invariant.0)

pub loop-number-init : goal.loop-number-init
loop-number-init c = (
  λ ix stored.
      absurd (let never : false ≡ true = rw (c.in_ok-table.ensures.empty, finite.get-empty) at stored in cc),
  omega (arith, c.in_ok-table.ensures.memory.roomy),
)

pub loop-number-preserved : goal.loop-number-preserved
loop-number-preserved c = (
  rw (c.insert_prehashed_unchecked.ensures.added)
      (AllBelow-insert _ _ _ _ c.new-in-loop-number.ensures c.loop-number.invariant.0),
  omega (arith, c.loop-number.invariant.1, c.insert_prehashed_unchecked.ensures.memory.one_less),
)
