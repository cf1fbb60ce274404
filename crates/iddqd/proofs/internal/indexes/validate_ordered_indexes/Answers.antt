use Rattle.std.proofs.Common.{Err}
use Rattle.std.proofs.lemmas.Result.{err_from_is_err_and}
use Rattle.iddqd.specs.declared.internal.ValidateCompact.TheVariants.{Compact, NonCompact}
use Rattle.iddqd.specs.Validation.{AreSound, AreSoundInOrder}
use Rattle.iddqd.proofs.SoundIndexLemmas.{AreSound-by_places, AreSound-if_distinct, AreSound-by_distinct, AreSoundInOrder-assigned, AreSoundInOrder-sound}
use Rattle.iddqd.proofs.ValidationLemmas.{Validates-part}
use Rattle.iddqd.proofs.internal.indexes.validate_ordered_indexes.Goals as goal

pub returns-in_err-check_distinct-in-NonCompact : goal.returns-in_err-check_distinct-in-NonCompact
returns-in_err-check_distinct-in-NonCompact c =
    let p = err_from_is_err_and c.from_residual-in_err-check_distinct-in-NonCompact.result c.from_residual-in_err-check_distinct-in-NonCompact.ensures.1 in
    let doubled = AreSound-by_distinct c.args.expected_len _ _ c.in_ok-check_len.ensures c.in_ok-sorted.ensures.moved (Err _) c.in_err-check_distinct-in-NonCompact.ensures in
    rw (c.in-NonCompact.is, p.1, p.2) (Validates-part (AreSound NonCompact c.args.expected_len c.args.indexes.now) (AreSoundInOrder NonCompact c.args.expected_len c.args.indexes.now) _ (λ sound. sound.0) doubled)

pub returns-in_ok-check_assigned-in-Compact : goal.returns-in_ok-check_assigned-in-Compact
returns-in_ok-check_assigned-in-Compact c =
    let places = rw c.deref.ensures.value at c.check_order_places.ensures in
    let sound = AreSound-by_places c.args.expected_len _ _ c.in_ok-check_len.ensures c.in_ok-sorted.ensures.moved c.in_ok-sorted.ensures.sorted _ places in
    rw c.in-Compact.is (AreSoundInOrder-assigned Compact c.args.expected_len c.args.indexes.now _ c.in_ok-check_assigned-in-Compact.ensures sound)

pub returns-in_ok-check_distinct-in-NonCompact : goal.returns-in_ok-check_distinct-in-NonCompact
returns-in_ok-check_distinct-in-NonCompact c =
    let apart = AreSound-if_distinct c.args.expected_len _ _ c.in_ok-check_len.ensures c.in_ok-sorted.ensures.moved c.in_ok-check_distinct-in-NonCompact.ensures in
    rw c.in-NonCompact.is (AreSoundInOrder-sound NonCompact c.args.expected_len c.args.indexes.now _ apart c.check_assigned-in-NonCompact.ensures)
