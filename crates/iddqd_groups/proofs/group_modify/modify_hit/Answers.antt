use Rattle.std.proofs.Common.{◌≡◌, ◌∙◌, Some, refl}
use Rattle.iddqd_groups.proofs.group_modify.modify_hit.Goals as goal

pub returns-clause-called : goal.returns-clause-called
returns-clause-called g c = λ item live passed.
    let one : Some c.in-Some.item.now ≡ Some item = c.in-Some.ensures.value ∙ live in
    (c.f.new.arg2, record { shown = c.in-Some.item; shows = (cc); left = _; called = c.f.ensures; leaves = refl }, refl)
