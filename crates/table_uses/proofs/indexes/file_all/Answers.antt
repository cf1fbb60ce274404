use Rattle.std.proofs.Common.{◌≡◌, false, true}
use Rattle.std.specs.FinMap as finite
use Rattle.iddqd_hash.proofs.FiledLemmas.{AllBelow-fresh, AllBelow-insert}
use Rattle.table_uses.proofs.indexes.file_all.Goals as goal

pub insert_prehashed_unchecked-requires-clause-new : goal.insert_prehashed_unchecked-requires-clause-new
insert_prehashed_unchecked-requires-clause-new g c =
    rw (c.in_ok-try_reserve.ensures.contents, c.new.ensures) (AllBelow-fresh _ _ c.loop-place.invariant)

pub loop-place-init : goal.loop-place-init
loop-place-init g c = λ ix stored.
    absurd (let never : false ≡ true = rw (c.new-table.ensures.empty, finite.get-empty) at stored in cc)

pub loop-place-preserved : goal.loop-place-preserved
loop-place-preserved g c =
    rw (c.insert_prehashed_unchecked.ensures.added, c.in_ok-try_reserve.ensures.contents) (AllBelow-insert _ _ _ _ c.new.ensures c.loop-place.invariant)
