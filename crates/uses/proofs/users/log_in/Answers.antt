use Rattle.std.proofs.Common.{rules, ◌≡◌, ◌∙◌, ◌+◌, ◌-◌, ◌^◌, ℕ, Bool, Option, Some, None, MatchOption, min, ap}
use Rattle.std.specs.Borrow.{MutBor}
use Rattle.std.specs.Fn.{Once}
use Rattle.iddqd_maps.specs.Map.{MapState}
use Rattle.iddqd_maps.specs.Modify.{Modifies}
use Rattle.iddqd_maps.specs.Scan.{HasNoHit}
use Rattle.iddqd_maps.specs.Store.{rebound}
use Rattle.iddqd_maps.proofs.CallerLemmas.{called_leaves}
use Rattle.uses.specs.Users.{is_named, LogsIn}
use Rattle.uses.specs.declared.users.User.{User}
use Rattle.uses.proofs.users.log_in.Goals as goal

-- what the closure answers and leaves
abbrev Counts : User → ℕ → User → Type 0
Counts was count is = (count ≡ min (was.logins + 1) (2 ^ 32 - 1)) × (is ≡ record was { logins = count })

logs_in :
    {F : Type 0} (g : Once F (MutBor User × Unit {0}) (ℕ × (MutBor User × Unit {0}))) (f : F)
    → ((user left : MutBor User) (count : ℕ) → g.post f (user, tt) (count, (left, tt)) → Counts user.now count left.now)
    → (old new : MapState User) (test : User → Bool) (result : Option ℕ)
    → Modifies g f old test result new
    → MatchOption result (HasNoHit old.store test) (λ count. LogsIn test count old new)
logs_in g f counts old new test None none = none.0
logs_in g f counts old new test (Some count) hit =
    let user = hit.modified in
    let one = called_leaves g f Counts counts user.was user.is count user.called in
    record {
      ix = hit.ix;
      was = user.was;
      found = hit.hit;
      counted = one.0;
      left = user.left ∙ ap (rebound old.store hit.ix) one.1;
      memory = hit.memory;
    }

pub returns-clause-counted : goal.returns-clause-counted
returns-clause-counted c = logs_in _ _ (λ user left count called. (search rules, search rules)) c.args.users.now c.modify.new.self (is_named c.args.name.now) c.modify.result c.modify.ensures.modifies
