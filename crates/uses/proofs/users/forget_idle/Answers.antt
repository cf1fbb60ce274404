use Rattle.std.proofs.Common.{rules, arith}
use Rattle.iddqd_maps.proofs.CallerLemmas.{Retains-tested, retains_fewer}
use Rattle.uses.specs.Users.{has_logged_in}
use Rattle.uses.proofs.users.forget_idle.Goals as goal

pub returns-clause-stay : goal.returns-clause-stay
returns-clause-stay c = Retains-tested _ (λ s. Unit {0}) has_logged_in (λ s x b t i asked. (search rules, tt)) _ _ _ tt c.retain.ensures.retained

pub returns-clause-fewer : goal.returns-clause-fewer
returns-clause-fewer c = omega (arith, retains_fewer _ _ _ _ c.retain.ensures.retained)
