use Rattle.std.proofs.Common.{◌≡◌, ◌∙◌, Some, refl}
use Rattle.iddqd_map.proofs.map.modify_each.modify_slot.Goals as goal

pub returns-in-Some-clause-called : goal.returns-in-Some-clause-called
returns-in-Some-clause-called g c = λ item live.
    let one : Some c.in-Some.item.now ≡ Some item = c.in-Some.ensures.value ∙ live in
    (c.f.new.arg2, record { shown = c.in-Some.item; shows = (cc); left = _; called = c.f.ensures; leaves = refl }, refl)
