use Rattle.std.proofs.Common.{refl}
use Rattle.uses.proofs.users.sign_up.Goals as goal

pub returns-in-Err-Duplicate-clause-refused : goal.returns-in-Err-Duplicate-clause-refused
returns-in-Err-Duplicate-clause-refused c =
    let (given, scan, same) = rw c.in-Err-Duplicate.field-0-is at c.in-Err-Duplicate.ensures.inserts in
    (_, (scan _).1 refl)
