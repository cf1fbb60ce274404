use Rattle.std.proofs.Common.{rules, ◌≡◌, false, refl, subst}
use Rattle.iddqd_maps.specs.OneKey.{IsTaken}
use Rattle.uses.specs.Users.{is_named, same_name}
use Rattle.uses.specs.declared.users.User.{User}
use Rattle.uses.proofs.ExchangeLemmas.{changes, not_changed}
use Rattle.uses.proofs.users.rename.Goals as goal

pub returns-in-Ok-Some-clause-renamed : goal.returns-in-Ok-Some-clause-renamed
returns-in-Ok-Some-clause-renamed c =
    let renamed = λ (was : User). record was { name = c.args.to } in
    let changed =
    changes same_name same_name false (IsTaken same_name) c.args.users.now c.change.new.self _ renamed (is_named c.args.from.now) c.change.result c.change.ensures.changes
    (λ was item (user, returned, shows).
    let made : item ≡ record user.now { name = c.args.to } = search rules in
    subst (λ (x : User). item ≡ record x { name = c.args.to }) shows made) in
    (c.in-Ok-Some.field-0-0, rw (c.in-Ok-Some.is, c.in-Ok-Some.field-0-is) at changed)

pub returns-in-Err-Duplicate-clause-refused : goal.returns-in-Err-Duplicate-clause-refused
returns-in-Err-Duplicate-clause-refused c =
    let renamed = λ (was : User). record was { name = c.args.to } in
    let refused =
    not_changed same_name same_name false (IsTaken same_name) c.args.users.now c.change.new.self _ renamed (is_named c.args.from.now) c.change.result c.change.ensures.changes
    (λ was item (user, returned, shows).
    let made : item ≡ record user.now { name = c.args.to } = search rules in
    subst (λ (x : User). item ≡ record x { name = c.args.to }) shows made) in
    let (ix, was, only, (given, (apart, other))) = rw (c.in-Err-Duplicate.is, c.in-Err-Duplicate.field-0-is) at refused in
    (ix, only.only, (_, apart, (other _).1 refl))
