use Rattle.iddqd.proofs.SoundIndexLemmas.{AreSound-by_places, AreSound-by_distinct}
use Rattle.iddqd.proofs.internal.indexes.validate_hash_indexes.Goals as goal

pub returns-in-Compact : goal.returns-in-Compact
returns-in-Compact c =
    let places = rw c.deref.ensures.value at c.check_hash_places.ensures in
    rw c.in-Compact.is (AreSound-by_places c.args.expected_len _ _ c.in_ok-check_len.ensures c.in_ok-sorted.ensures.moved c.in_ok-sorted.ensures.sorted _ places)

pub returns-in-NonCompact : goal.returns-in-NonCompact
returns-in-NonCompact c =
    rw c.in-NonCompact.is (AreSound-by_distinct c.args.expected_len _ _ c.in_ok-check_len.ensures c.in_ok-sorted.ensures.moved _ c.check_distinct.ensures)
