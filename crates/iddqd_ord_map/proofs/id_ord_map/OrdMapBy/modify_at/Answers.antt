use Rattle.std.proofs.Common.{◌≡◌, Some, subst}
use Rattle.iddqd.specs.Store.{get}
use Rattle.iddqd_map.specs.Map.{MapState}
use Rattle.iddqd_ord_map.proofs.id_ord_map.OrdMapBy.modify_at.Goals as goal

pub modify_live-requires-clause-callable : goal.modify_live-requires-clause-callable
modify_live-requires-clause-callable g c = λ p live. (c.requires p (subst (λ (m : MapState _). get m.store c.args.ix ≡ Some p.now) c.self.view_is live)).0

pub modify_live-requires-clause-keeps : goal.modify_live-requires-clause-keeps
modify_live-requires-clause-keeps g c = λ p live. c.requires p (subst (λ (m : MapState _). get m.store c.args.ix ≡ Some p.now) c.self.view_is live)

pub returns : goal.returns
returns g c = rw (← c.self.view_is) c.modify_live.ensures.modifies
